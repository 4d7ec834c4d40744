-- Values and versions of which nothing is refused are as they are written.
use Rattle.std.proofs.Common.{◌≡◌, ◌≤◌, ℕ, pos, negsuc, List, [], ◌∷◌, refl, sym, ◌∙◌, ap, subst, arith}
use Rattle.std.specs.Prelude.{Bool, true, false, not, cond, if◌then◌else◌, find, Option, Some, None, option_and_then}
use Rattle.std.specs.Option.{option_map, option_map_or}
use Rattle.std.proofs.lemmas.Option.{same_Some, none-some}
use Rattle.mojom_ast.specs.declared.names.Identifier.{Identifier}
use Rattle.mojom_ast.specs.declared.names.Value.{Value}
use Rattle.mojom_ast.specs.declared.names.Value.TheVariants as values
use Rattle.mojom_ast.specs.declared.attributes.Attribute.{Attribute}
use Rattle.mojom_files.specs.declared.named_file.NamedFile.{NamedFile}
use Rattle.mojom_files.specs.declared.refusal.Refusal.{Refusal}
use Rattle.mojom_files.specs.declared.basic.Basic.TheVariants as basics
use Rattle.mojom_files.specs.Names.{dotted}
use Rattle.module_resolver.specs.declared.target.Target.{Target}
use Rattle.module_resolver.specs.LookUp.{look_up}
use Rattle.module_resolver.specs.NamesOf.{names_of}
use Rattle.name_refusals.specs.NameRefusals.{refused_uses}
use Rattle.name_refusals.specs.Uses.{is_min_version, uses_in_value, uses_in_option, uses_in_attribute, uses_in_attributes}
use Rattle.const_eval.specs.declared.consts.Consts.{Consts}
use Rattle.const_eval.specs.declared.file_things.FileThings.{FileThings}
use Rattle.const_meanings.specs.Known.{Known, TextValue, BoolValue, NumberValue, FloatValue, signed}
use Rattle.const_eval.specs.Kinds.{unsigned_bits, is_within, refused_value}
use Rattle.const_eval.specs.Things.{thing_of}
use Rattle.const_eval.specs.Consts.{AreConsts, value_at, value_of_target, value_in}
use Rattle.const_eval.specs.Refused.{Site as EvalSite, place_of_value, of_known, refused_version_value, refused_version, refused_versions}
use Rattle.mj_schema.specs.declared.rows.Literal.{Literal}
use Rattle.mj_schema.specs.declared.rows.Literal.TheVariants as literals
use Rattle.draft_rows.specs.Rows.{literal_of}
use Rattle.kind_scope.specs.Members.{held}
use Rattle.kind_scope.specs.Versions.{version_of_known}
use Rattle.schema_laws.proofs.Quiet.{both_empty, none_where}
use Rattle.schema_laws.proofs.QuietFiles.{AreQuiet}
use Rattle.schema_laws.proofs.Kinded.{uses_apart}
use Rattle.schema_laws.proofs.Told.{name_means}
use Rattle.schema_laws.proofs.AllSound.{known_of as thing_known}
use Rattle.written_laws.specs.Values.{Site, known_of, MeansValue, number_of, IsValue, version_in, IsVersion}
use Rattle.schema_laws.proofs.ConstsHaveRows.{is_float_value}
use Rattle.written_laws.proofs.Counts.{small_number}
use Rattle.written_laws.proofs.Reals.{thing_real}

-- what a value is

sign : (negative : Bool) (magnitude : ℕ) → signed negative magnitude ≡ number_of negative magnitude
sign true magnitude = refl
sign false magnitude = refl

-- a value that is known is what is written
pub is_value : (site : Site) (value : Value) (known : Known) → value_in site.consts site.names site.file site.enclosing value ≡ Some known
    → IsValue site value known
is_value site (values.String written) known e = sym (same_Some (TextValue written.bytes) known e)
is_value site (values.Bool value span) known e = sym (same_Some (BoolValue value) known e)
is_value site (values.Number negative magnitude span) known e =
    sym (same_Some (NumberValue (signed negative magnitude)) known e) ∙ ap NumberValue (sign negative magnitude)
is_value site (values.Name name) known e = go (look_up site.names site.file site.enclosing (dotted name.parts)) refl e
  where
    go : (o : Option Target) → look_up site.names site.file site.enclosing (dotted name.parts) ≡ o
        → option_and_then (value_of_target site.consts) o ≡ Some known → MeansValue site name.parts known
    go None is e = absurd (none-some known e)
    go (Some target) is e = record { target = target; found = is; is = e }

-- a literal in a row is what is known

known_is : (known : Known) (l : Literal) → literal_of known ≡ Some l → known ≡ known_of l
known_is (TextValue bytes) l e = ap known_of (same_Some (literals.Text bytes) l e)
known_is (BoolValue value) l e = ap known_of (same_Some (literals.Bool value) l e)
known_is (NumberValue number) l e = ap known_of (same_Some (literals.Whole number) l e)
known_is FloatValue l e = absurd (none-some l e)

pub literal_known : (o : Option Known) (l : Literal) → option_and_then literal_of o ≡ Some l → o ≡ Some (known_of l)
literal_known None l e = absurd (none-some l e)
literal_known (Some known) l e = ap (λ (k : Known). let o : Option Known = Some k in o) (known_is known l e)

-- each value that uses no name that is refused is known, and isn't a float
pub record IsKnown (site : Site) (value : Value) : Type 0 where
  pub known : Known
  pub is : value_in site.consts site.names site.file site.enclosing value ≡ Some known
  pub real : is_float_value known ≡ false

pub value_known : (files : List NamedFile) (order : List ℕ) (consts : Consts) (are : AreConsts files (names_of files order).files consts)
    → AreQuiet files (names_of files order).files consts → (file : ℕ) (enclosing : Option (List ℕ)) (value : Value)
    → refused_uses (names_of files order).files file (uses_in_value enclosing value) ≡ []
    → IsKnown (record { names = (names_of files order).files; consts = consts; file = file; enclosing = enclosing }) value
value_known files order consts are quiet file enclosing (values.String written) e = record { known = TextValue written.bytes; is = refl; real = refl }
value_known files order consts are quiet file enclosing (values.Bool value span) e = record { known = BoolValue value; is = refl; real = refl }
value_known files order consts are quiet file enclosing (values.Number negative magnitude span) e =
    record { known = NumberValue (signed negative magnitude); is = refl; real = refl }
value_known files order consts are quiet file enclosing (values.Name name) e =
    let m = name_means files order file enclosing name e in
    let k = thing_known files order consts are quiet m.has.thing m.has.told in
    let there : value_of_target consts m.target ≡ Some k.known =
    ap (λ (ts : List FileThings). option_and_then (value_at consts) (thing_of ts m.target)) are.files_are
    ∙ (ap (option_and_then (value_at consts)) m.has.is ∙ k.is) in
    record {
      known = k.known;
      is = ap (option_and_then (value_of_target consts)) m.found ∙ there;
      real = thing_real files order consts are quiet m.has.thing m.has.told k.known k.is;
    }

-- a value of uint32

pub record IsSmall (known : Known) : Type 0 where
  pub number : ℕ
  pub is : known ≡ NumberValue (pos number)
  pub small : number ≤ 4294967295

uint32_small : (file : ℕ) (name : Identifier) (at : ℕ) (known : Known) → refused_value file name at basics.Uint32 known ≡ [] → IsSmall known
uint32_small file name at (TextValue bytes) e = absurd cc
uint32_small file name at (BoolValue value) e = absurd cc
uint32_small file name at (NumberValue (pos n)) e = record { number = n; is = refl; small = small_number file at n e }
uint32_small file name at (NumberValue (negsuc n)) e =
    let bad : true ≡ false = none_where (not (is_within (unsigned_bits 32) (negsuc n))) _ e in absurd cc
uint32_small file name at FloatValue e = absurd cc

-- versions

chosen : (b : Bool) (xs ys : List Refusal) → b ≡ true → (if b then xs else ys) ≡ [] → xs ≡ []
chosen true xs ys is e = e
chosen false xs ys is e = absurd cc

module _ (site : Site)
    (known : (value : Value) → refused_uses site.names site.file (uses_in_value site.enclosing value) ≡ [] → IsKnown site value) where
  abbrev eval_site : EvalSite
  eval_site = record { consts = site.consts; names = site.names; file = site.file }

  abbrev none_refused : Attribute → Type 0
  none_refused a = refused_uses site.names site.file (uses_in_attribute site.enclosing a) ≡ []

  -- the attribute that says the version: nothing is refused of it
  record IsFound (name : Identifier) (a : Attribute) : Type 0 where
    is : is_min_version a ≡ true
    value : refused_version eval_site site.enclosing name a ≡ []
    uses : none_refused a

  found_quiet : (name : Identifier) (list : List Attribute) → refused_versions eval_site site.enclosing name list ≡ []
      → refused_uses site.names site.file (uses_in_attributes site.enclosing list) ≡ [] → (a : Attribute) → find is_min_version list ≡ Some a → IsFound name a
  found_quiet name [] e uses a is = absurd (none-some a is)
  found_quiet name (one ∷ others) e uses a is =
      let parts = both_empty (refused_version eval_site site.enclosing name one) (refused_versions eval_site site.enclosing name others) e in
      let used = uses_apart site.names site.file (uses_in_attribute site.enclosing one) (uses_in_attributes site.enclosing others) uses in
      go (is_min_version one) refl is parts.0 used.0 (λ later. found_quiet name others parts.1 used.1 a later)
    where
      go : (b : Bool) → is_min_version one ≡ b → cond b (Some one) (find is_min_version others) ≡ Some a
          → refused_version eval_site site.enclosing name one ≡ [] → none_refused one → (find is_min_version others ≡ Some a → IsFound name a)
          → IsFound name a
      go true e is value uses rest =
          let same = same_Some one a is in
          subst (IsFound name) same (record { is = e; value = value; uses = uses })
      go false e is value uses rest = rest is

  valued : (name : Identifier) (a : Attribute) → IsFound name a → (v : Option Value) → a.value ≡ v
      → IsVersion site (Some v) (option_map_or version_of_known (option_and_then (value_in site.consts site.names site.file site.enclosing) v) 0)
  valued name a found None same =
      let value = chosen (is_min_version a) (refused_version_value eval_site site.enclosing name a.value) [] found.is found.value in
      let bad : refused_version_value eval_site site.enclosing name None ≡ [] =
      subst (λ (v : Option Value). refused_version_value eval_site site.enclosing name v ≡ []) same value in
      absurd cc
  valued name a found (Some v) same =
      let value = chosen (is_min_version a) (refused_version_value eval_site site.enclosing name a.value) [] found.is found.value in
      let here : refused_version_value eval_site site.enclosing name (Some v) ≡ [] =
      subst (λ (o : Option Value). refused_version_value eval_site site.enclosing name o ≡ []) same value in
      let uses : refused_uses site.names site.file (uses_in_value site.enclosing v) ≡ [] = used a found.is found.uses (Some v) same in
      let k = known v uses in
      let quiet : refused_value site.file name (place_of_value v) basics.Uint32 k.known ≡ [] =
      sym (ap (of_known (refused_value site.file name (place_of_value v) basics.Uint32)) k.is) ∙ here in
      let small = uint32_small site.file name (place_of_value v) k.known quiet in
      let hold : held small.number ≡ small.number = let s = small.small in omega (arith, s) in
      let version : option_map_or version_of_known (value_in site.consts site.names site.file site.enclosing v) 0 ≡ small.number =
      ap (λ (o : Option Known). option_map_or version_of_known o 0) (k.is ∙ ap (λ (x : Known). let o : Option Known = Some x in o) small.is) ∙ hold in
      subst (λ (n : ℕ). IsValue site v (NumberValue (pos n))) (sym version)
      (is_value site v (NumberValue (pos small.number)) (k.is ∙ ap (λ (x : Known). let o : Option Known = Some x in o) small.is))
    where
      used : (a : Attribute) → is_min_version a ≡ true → none_refused a → (o : Option Value) → a.value ≡ o
          → refused_uses site.names site.file (uses_in_option site.enclosing o) ≡ []
      used a is uses o same =
          let all : refused_uses site.names site.file (uses_in_option site.enclosing a.value) ≡ [] =
          subst (λ (b : Bool). refused_uses site.names site.file (if b then uses_in_option site.enclosing a.value else []) ≡ []) is uses in
          subst (λ (v : Option Value). refused_uses site.names site.file (uses_in_option site.enclosing v) ≡ []) same all

  -- the version that a member has is the one that is written
  pub version_kept : (name : Identifier) (list : List Attribute) → refused_versions eval_site site.enclosing name list ≡ []
      → refused_uses site.names site.file (uses_in_attributes site.enclosing list) ≡ []
      → IsVersion site (version_in list)
      (option_map_or version_of_known
      (option_and_then (value_in site.consts site.names site.file site.enclosing)
      (option_and_then (λ (a : Attribute). a.value) (find is_min_version list))) 0)
  version_kept name list e uses = go (find is_min_version list) refl
    where
      go : (o : Option Attribute) → find is_min_version list ≡ o
          → IsVersion site (option_map (λ (a : Attribute). a.value) o)
          (option_map_or version_of_known
          (option_and_then (value_in site.consts site.names site.file site.enclosing) (option_and_then (λ (a : Attribute). a.value) o)) 0)
      go None is = refl
      go (Some a) is = valued name a (found_quiet name list e uses a is) a.value refl
