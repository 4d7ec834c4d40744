-- Nothing is refused of any file where no stage refuses anything.
use Rattle.std.proofs.Common.{◌≡◌, ℕ, List, [], ◌∷◌, get_or, refl, sym, ◌∙◌, ap, subst, inl, inr}
use Rattle.std.specs.Prelude.{Bool, true, false, ◌||◌, ◌==◌, take, map, Option, Some, slice_get}
use Rattle.std.specs.List.{flat_map}
use Rattle.std.specs.Option.{option_map_or}
use Rattle.std.proofs.lemmas.Bool.{eqb-true}
use Rattle.std.proofs.lemmas.Option.{slice_get_within, get_or_from_slice_get}
use Rattle.mojom_files.specs.declared.named_file.NamedFile.{NamedFile}
use Rattle.mojom_files.specs.Definitions.{Defined, definitions_of}
use Rattle.module_resolver.specs.declared.file_names.FileNames.{FileNames}
use Rattle.import_order.specs.Imports.{has}
use Rattle.module_resolver.specs.NamesOf.{names_of}
use Rattle.name_refusals.specs.NameRefusals.{is_among, names_before, duplicate, repeated_in, of_file, refused_uses, refusals_in}
use Rattle.name_refusals.specs.NameRefusals as resolver
use Rattle.name_refusals.specs.Uses.{uses_of}
use Rattle.const_eval.specs.declared.consts.Consts.{Consts}
use Rattle.const_eval.specs.Evaluated.{refused_in}
use Rattle.kind_refusals.specs.KindRefusals.{refused_definition}
use Rattle.draft_rows.specs.RowCounts.{definitions_at}
use Rattle.schema_laws.specs.Passed.{IsPassed}
use Rattle.schema_laws.proofs.Among.{IsAmong, place_of}
use Rattle.schema_laws.proofs.Quiet.{both_empty, quiet, quiet_consts, quiet_names}
use Rattle.schema_laws.proofs.Rowed.{in_order}
use Rattle.schema_laws.proofs.Kinded.{uses_apart}

pub has_among : (order : List ℕ) (number : ℕ) → has order number ≡ true → IsAmong order number
has_among [] number e = absurd cc
has_among (one ∷ others) number e = go (one == number) refl e (has_among others number)
  where
    go : (b : Bool) → (one == number) ≡ b → (b || has others number) ≡ true → (has others number ≡ true → IsAmong others number)
        → IsAmong (one ∷ others) number
    go true is e rest = inl (eqb-true one number is)
    go false is e rest = inr (rest e)

-- where nothing is refused of uses, nothing is of those of any definition
pub uses_at : (names : List FileNames) (file : ℕ) (ds : List Defined) (d : Defined) → refused_uses names file (flat_map uses_of ds) ≡ [] → IsAmong ds d
    → refused_uses names file (uses_of d) ≡ []
uses_at names file [] d e among = absurd among
uses_at names file (one ∷ ds) d e (inl same) =
    subst (λ (x : Defined). refused_uses names file (uses_of x) ≡ []) same (uses_apart names file (uses_of one) (flat_map uses_of ds) e).0
uses_at names file (one ∷ ds) d e (inr among) = uses_at names file ds d (uses_apart names file (uses_of one) (flat_map uses_of ds) e).1 among

-- files of which no stage refuses anything, file by file
pub record AreQuiet (files : List NamedFile) (names : List FileNames) (consts : Consts) : Type 0 where
  pub uses : (file : ℕ) (tree : NamedFile) → slice_get files file ≡ Some tree → refused_uses names file (flat_map uses_of (definitions_of tree.tree)) ≡ []
  pub values : (file : ℕ) (tree : NamedFile) → slice_get files file ≡ Some tree → refused_in (record { consts = consts; names = names; file = file }) tree ≡ []
  pub kinds : (file : ℕ) (tree : NamedFile) → slice_get files file ≡ Some tree → (d : Defined) → IsAmong (definitions_of tree.tree) d
      → refused_definition names consts file d ≡ []

order_names : (files : List NamedFile) (order : List ℕ) (place file : ℕ) (tree : NamedFile) → slice_get order place ≡ Some file
    → slice_get files file ≡ Some tree → resolver.refusals_at files order place ≡ []
    → refused_uses (names_of files order).files file (flat_map uses_of (definitions_of tree.tree)) ≡ []
order_names files order place file tree at is e =
    let known = is_among (names_before files (take place order)) in
    let number : get_or order place 0 ≡ file = get_or_from_slice_get order place file 0 at in
    let here : of_file (refusals_in (names_of files order).files known file) (slice_get files file) ≡ [] =
    subst (λ (n : ℕ). of_file (refusals_in (names_of files order).files known n) (slice_get files n) ≡ []) number e in
    let of_tree : refusals_in (names_of files order).files known file tree ≡ [] =
    sym (ap (of_file (refusals_in (names_of files order).files known file)) is) ∙ here in
    (both_empty (map (duplicate file) (repeated_in known (definitions_of tree.tree)))
    (refused_uses (names_of files order).files file (flat_map uses_of (definitions_of tree.tree))) of_tree).1

definitions_there : (files : List NamedFile) (file : ℕ) (tree : NamedFile) (d : Defined) → slice_get files file ≡ Some tree
    → IsAmong (definitions_of tree.tree) d → IsAmong (definitions_at files file) d
definitions_there files file tree d is among =
    let same : definitions_of tree.tree ≡ definitions_at files file =
    sym (ap (λ (o : Option NamedFile). option_map_or (λ (f : NamedFile). definitions_of f.tree) o []) is) in
    subst (λ (ds : List Defined). IsAmong ds d) same among

pub all_quiet : (files : List NamedFile) (order : List ℕ) (consts : Consts) → IsPassed files order (names_of files order) consts
    → AreQuiet files (names_of files order).files consts
all_quiet files order consts passed =
    let there : (file : ℕ) (tree : NamedFile) → slice_get files file ≡ Some tree → IsAmong order file =
    λ file tree is. has_among order file (in_order files order passed.ordered.is file (slice_get_within files file tree is)) in
    record {
      uses = λ file tree is.
          let place = place_of order file (there file tree is) in
          order_names files order place.place file tree place.is is
          (quiet_names files order place.place passed.named.none_refused (slice_get_within order place.place file place.is));
      values = λ file tree is.
          let none = quiet_consts (names_of files order).files consts files order file passed.evaluated.none (there file tree is) in
          sym (ap (of_file (refused_in (record { consts = consts; names = (names_of files order).files; file = file }))) is) ∙ none;
      kinds = λ file tree is d among.
          quiet (names_of files order).files consts files order file d passed.kinds (there file tree is) (definitions_there files file tree d is among);
    }
