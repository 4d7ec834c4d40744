-- The message of a value that was prepared, and why a value isn't written.
use Rattle.std.proofs.Common.{◌≡◌, ◌≤◌, ◌<◌, ◌+◌, ◌^◌, ℕ, zero, suc, List, [], ◌∷◌, ◌++◌, length, Option, Some, None, Ok, Err, refl, sym, subst, ap, ◌∙◌, add-one, arith, inl, inr}
use Rattle.std.specs.Prelude.{ℤ, Result, IsTrue, is_ok}
use Rattle.mj_base.specs.Bytes.{rounded8}
use Rattle.mj_schema.specs.Lookups.{method_in}
use Rattle.mj_schema.specs.declared.rows.MethodRow.{MethodRow}
use Rattle.mj_schema.specs.declared.schema.Schema.{Schema}
use Rattle.wire_model.specs.Expected.{Message, method_named}
use Rattle.wire_model.specs.HeaderMarks.{CONTROL_ID}
use Rattle.wire_model.specs.Message.{AreIds, is_plain, message, written_request}
use Rattle.wire_model.specs.Stands.{up_from}
use Rattle.wire_model.specs.Tight.{MAX_PAYLOAD_BYTES}
use Rattle.wire_model.specs.Trees.{Tree, view}
use Rattle.wire_model.specs.declared.target.Target.{Target}
use Rattle.wire_encoder.specs.FirstFailed.{Met, Refusal}
use Rattle.wire_encoder.specs.Prepared.{HasTarget, IsPrepared, IsPrepareRefusal, method_of, flags_for, payload_for, verdict, sealed_head}
use Rattle.wire_encoder.specs.declared.prepared.Prepared.{Prepared}
use Rattle.wire_encoder.specs.declared.refusal.PrepareError.{PrepareError}
use Rattle.wire_encoder.specs.declared.refusal.PrepareError.TheVariants as unfit
use Rattle.wire_encoder.specs.declared.sealing.Head as code
use Rattle.wire_model.specs.declared.value.Value.{Value}
use Rattle.sealed_laws.specs.Sealed.{IsHeadFor, IsReadAs, PassedIsRead, expected_for}
use Rattle.sealed_laws.proofs.Sealed.{are_flags, has_struct}
use Rattle.byte_rules.specs.Judged.{Spells, IsBad}
use Rattle.value_text.specs.Brackets.{MAX_BRACKETS}
use Rattle.value_text.specs.Rules.{value}
use Rattle.value_text.specs.Spelling.{spell}
use Rattle.mojo_tool.specs.Lines.{hex_line}
use Rattle.mojo_tool.specs.Work.{Work, BadText, Decodes, Encodes, Unfit, IsShown, Judging, IsShownAgain, IsSealed, Sealing, Preparing, Writing}
use Rattle.mojo_tool.specs.Work.{head_of, parameters_kind, printed_message, without_line_end}
use Rattle.mojo_tool.specs.steps.Messages.{IsTextOfWork, unfit_stop}
use Rattle.mojo_tool.specs.steps.Stops.{StopsAt, IsOf}
use Rattle.mojo_tool.proofs.Shown.{shown_work, text_read}

-- one id more
up_end : (first n : ℕ) → up_from first (suc n) ≡ up_from first n ++ (first + n) ∷ []
up_end first zero = let e : first ≡ first + 0 = omega arith in ap (λ (i : ℕ). i ∷ []) e
up_end first (suc n) =
    let e : first + 1 + n ≡ first + suc n = omega arith in
    ap (λ (is : List ℕ). first ∷ is) (up_end (first + 1) n ∙ ap (λ (i : ℕ). up_from (first + 1) n ++ i ∷ []) e)

pub up_more : (n : ℕ) (ids all : List ℕ) → ids ≡ up_from 1 n → all ≡ ids ++ (n + 1) ∷ [] → all ≡ up_from 1 (n + 1)
up_more n ids all before more =
    let e : 1 + n ≡ n + 1 = omega arith in
    more ∙ ap (λ (is : List ℕ). is ++ (n + 1) ∷ []) before ∙ ap (λ (i : ℕ). up_from 1 n ++ i ∷ []) (sym e) ∙ sym (up_end 1 n)
    ∙ ap (up_from 1) (sym (add-one n))

up_length : (first n : ℕ) → length (up_from first n) ≡ n
up_length first zero = refl
up_length first (suc n) = ap suc (up_length (first + 1) n)

-- there are so many ids
pub ids_many : (ids : List ℕ) (n : ℕ) → ids ≡ up_from 1 n → length ids ≡ n
ids_many ids n e = ap length e ∙ up_length 1 n

up_ids : (first n : ℕ) → 0 < first → first + n ≤ CONTROL_ID → AreIds (up_from first n)
up_ids first zero some few = tt
up_ids first (suc n) some few = (some, (omega (arith, few), up_ids (first + 1) n (omega arith) (omega (arith, few))))

-- and they are ids
pub ids_are : (ids : List ℕ) (n : ℕ) → n ≤ 64 → ids ≡ up_from 1 n → AreIds ids
ids_are ids n few e = subst AreIds (sym e) (up_ids 1 n (omega arith) (omega (arith, few)))

-- a message by what its head tells
abbrev made : (name : ℕ) (interface flags request : ℕ) (moment : Option ℤ) (ids payload : List ℕ) → List ℕ
made name interface flags request moment ids payload =
    message (record { interface = interface; name = name; flags = flags; nonce = 0; request = request; moment = moment; ids = ids }) payload

-- ## What is printed of a value that passes all checks

module _ (law : PassedIsRead) (schema : Schema) (target : Target) (tree : Tree) (met : Met) (there : HasTarget schema target)
    (small : target.method < 2 ^ 32) (passes : verdict schema target tree ≡ Ok met)
    (short : length (payload_for schema target tree) ≤ MAX_PAYLOAD_BYTES) (few : length met.endpoints ≤ 64) where
  -- the head is one of the target
  head_for : IsHeadFor schema target met (head_of schema target met)
  head_for =
      let n = length met.endpoints in
      let f = are_flags (method_of schema target) target in
      let many : length (up_from 1 n) ≡ n = ids_many (up_from 1 n) n refl in
      record {
        room = record {
          interface = omega arith;
          name = small;
          flags = f.small;
          nonce = omega arith;
          request = omega arith;
          moment = tt;
          one_way = f.one_way;
          ids = ids_are (up_from 1 n) n few refl;
          few = omega (arith, many, few);
        };
        name = refl;
        flags = refl;
        ids = many;
      }

  -- the message is let through and read as the value
  read_again : IsReadAs schema target met.handles (head_of schema target met) tree (printed_message schema target tree met)
  read_again = law schema target tree met (head_of schema target met) there passes short head_for

  -- so it is shown as the value
  shown_again : (name : List ℕ) → IsShownAgain schema target tree met name
  shown_again name =
      let bytes = printed_message schema target tree met in
      let is = read_again in
      let has = has_struct schema target is.number is.parameters in
      let text : Tree → List ℕ = spell schema (parameters_kind is.number) in
      let request : ℕ → ℕ = λ flags. written_request (is_plain flags) 1 in
      let named : method_named schema (expected_for target) bytes ≡ Some has.row =
      ap (λ (m : Message). method_in schema.interfaces target.interface m.method) is.says ∙ has.named in
      let shown : IsShown schema (expected_for target) name bytes
      (Decodes name has.row.name (request (flags_for (method_of schema target) target)) (text tree)) =
      record {
        method = has.row;
        number = is.number;
        named = named;
        parameters = has.struct;
        whole = sym (ap (λ (m : Message). Decodes name has.row.name m.request (text m.value)) is.says);
        reads = text_read schema (expected_for target) bytes is.number is.found;
      } in
      let flags = ap (λ (o : Option MethodRow). Decodes name has.row.name (request (flags_for o target)) (text tree)) has.named in
      record {
        method = has.row;
        number = is.number;
        named = has.named;
        parameters = has.struct;
        shown = subst (Judging schema (expected_for target) name met.handles bytes) flags
            (shown_work schema (expected_for target) name bytes met.handles _ is.stands shown);
      }

  pub is_sealed : IsSealed schema target tree met (Encodes (printed_message schema target tree met))
  is_sealed = record { short = short; whole = refl; reads = read_again; shows = shown_again }

-- ## What is prepared

-- what is there for the target of a value is there for that of what was prepared of it
pub target_there : (schema : Schema) (p : Prepared) (target : Target) → p.target ≡ target → HasTarget schema target → HasTarget schema p.target
target_there schema p target e there = subst (HasTarget schema) (sym e) there

-- the message that was sealed is the one that the value asks for
pub sealed_work : PassedIsRead → (schema : Schema) (p : Prepared) (head : code.Head) (bytes : List ℕ) → HasTarget schema p.target
    → p.target.method < 2 ^ 32 → IsPrepared schema p → head.interface_id ≡ 0 → head.request_id ≡ 1 → head.moment ≡ None
    → head.ids.now ≡ up_from 1 (length p.endpoints.items) → bytes ≡ message (sealed_head p head) p.payload.items
    → Preparing schema p.target (view p.value) (Encodes bytes)
sealed_work law schema p head bytes there small is interface request moment ids e =
    let name : ℕ = p.target.method in
    let i : bytes ≡ made name 0 p.flags head.request_id head.moment head.ids.now p.payload.items =
    e ∙ ap (λ (n : ℕ). made name n p.flags head.request_id head.moment head.ids.now p.payload.items) interface in
    let r : bytes ≡ made name 0 p.flags 1 head.moment head.ids.now p.payload.items =
    i ∙ ap (λ (n : ℕ). made name 0 p.flags n head.moment head.ids.now p.payload.items) request in
    let m : bytes ≡ made name 0 p.flags 1 None head.ids.now p.payload.items =
    r ∙ ap (λ (o : Option ℤ). made name 0 p.flags 1 o head.ids.now p.payload.items) moment in
    let l : bytes ≡ made name 0 p.flags 1 None (up_from 1 (length p.endpoints.items)) p.payload.items =
    m ∙ ap (λ (is : List ℕ). made name 0 p.flags 1 None is p.payload.items) ids in
    let f = l ∙ ap (λ (n : ℕ). made name 0 n 1 None (up_from 1 (length p.endpoints.items)) p.payload.items) is.flags in
    let whole =
    f ∙ ap (λ (bs : List ℕ). made name 0 (flags_for (method_of schema p.target) p.target) 1 None (up_from 1 (length p.endpoints.items)) bs) is.payload in
    let short : length (payload_for schema p.target (view p.value)) ≤ MAX_PAYLOAD_BYTES =
    subst (λ (bs : List ℕ). length bs ≤ MAX_PAYLOAD_BYTES) is.payload p.short in
    let met : Met = record { handles = p.handles; endpoints = p.endpoints.items } in
    let s = is_sealed law schema p.target (view p.value) met there small is.passes short p.few_endpoints in
    let sealed : IsSealed schema p.target (view p.value) met (Encodes bytes) =
    record { short = short; whole = ap Encodes whole; reads = s.reads; shows = s.shows } in
    subst (λ (r : Result Met Refusal). Sealing schema p.target (view p.value) r (Encodes bytes)) (sym is.passes) (inr sealed)

-- its text
pub encoded : (schema : Schema) (p : Prepared) (target : Target) (value : Value) (bytes text : List ℕ) → p.target ≡ target → p.value ≡ value
    → Preparing schema p.target (view p.value) (Encodes bytes) → text ≡ hex_line bytes → IsTextOfWork (Preparing schema target (view value)) text
encoded schema p target value bytes text t v asked e = record {
  work = Encodes bytes;
  asked = subst (λ (x : Value). Preparing schema target (view x) (Encodes bytes)) v
      (subst (λ (x : Target). Preparing schema x (view p.value) (Encodes bytes)) t asked);
  text_of = e;
}

-- a value that isn't prepared isn't written
pub unfit_stops : (schema : Schema) (target : Target) (tree : Tree) (why : PrepareError) → IsPrepareRefusal schema target tree why
    → StopsAt (Preparing schema target tree) (unfit_stop why)
unfit_stops schema target tree (unfit.Misfit path) is =
    subst (λ (r : Result Met Refusal). Sealing schema target tree r (Unfit (unfit.Misfit path))) (sym is) refl
unfit_stops schema target tree (unfit.TooDeep path) is =
    subst (λ (r : Result Met Refusal). Sealing schema target tree r (Unfit (unfit.TooDeep path))) (sym is) refl
unfit_stops schema target tree (unfit.TooManyHandles path) is =
    subst (λ (r : Result Met Refusal). Sealing schema target tree r (Unfit (unfit.TooManyHandles path))) (sym is) refl
unfit_stops schema target tree unfit.TooLong is = long (verdict schema target tree) is.0 (beyond (length (payload_for schema target tree)) is.1)
  where
    beyond : (n : ℕ) → MAX_PAYLOAD_BYTES < rounded8 n → MAX_PAYLOAD_BYTES < n
    beyond n over = omega (arith, over)

    long : (r : Result Met Refusal) → IsTrue (is_ok r) → MAX_PAYLOAD_BYTES < length (payload_for schema target tree)
        → Sealing schema target tree r (Unfit unfit.TooLong)
    long (Ok met) ok over = inl (over, refl)
    long (Err wrong) ok over = absurd cc
unfit_stops schema target tree unfit.Memory is = tt

-- and no file is named
pub unnamed : (why : PrepareError) → IsOf (λ name. ⊥) (unfit_stop why)
unnamed (unfit.Misfit path) = tt
unnamed (unfit.TooDeep path) = tt
unnamed (unfit.TooManyHandles path) = tt
unnamed unfit.TooLong = tt
unnamed unfit.Memory = tt

-- the text of a value leads on to the value, or is bad
pub value_spelled : (schema : Schema) (found : Target × ℕ) (bytes : List ℕ) (tree : Tree)
    → Spells (value schema MAX_BRACKETS (parameters_kind found.1)) tree (without_line_end bytes) → (work : Work) → Preparing schema found.0 tree work
    → Writing schema found bytes work
value_spelled schema (target, number) bytes tree spells work asked = inl (tree, spells, asked)

pub value_bad : (schema : Schema) (found : Target × ℕ) (bytes : List ℕ) (at : ℕ)
    → IsBad (value schema MAX_BRACKETS (parameters_kind found.1)) (without_line_end bytes) at → Writing schema found bytes (BadText at)
value_bad schema (target, number) bytes at bad = inr (at, bad, refl)
