-- A refusal's file is one of those given.
use Rattle.std.proofs.Common.{◌≡◌, ℕ, ◌<◌, List, [], ◌∷◌, length, refl, sym, subst, inl, inr}
use Rattle.std.specs.Prelude.{Option, Some, None, Result, Ok, Err, IfErr, slice_get, get_or, take, option_and_then}
use Rattle.std.specs.List.{range_with_len}
use Rattle.std.specs.Option.{option_map_or, option_or}
use Rattle.std.proofs.lemmas.Option.{slice_get_within}
use Rattle.mj_schema.specs.declared.schema.Schema.{Schema}
use Rattle.mojom_files.specs.declared.named_file.NamedFile.{NamedFile}
use Rattle.mojom_files.specs.declared.refusal.Refusal.{Refusal}
use Rattle.mojom_files.specs.Refusals.{IsAmong, IsAnswered, best_of, first_refusal}
use Rattle.mojom_files.proofs.Best.{best_is_first}
use Rattle.import_order.specs.Order.{file_names, import_place, given_refusals, given_refusals_at, IsCircular, IsDisordered}
use Rattle.module_resolver.specs.NamesOf.{names_of}
use Rattle.name_refusals.specs.NameRefusals.{is_among, names_before}
use Rattle.name_refusals.specs.NameRefusals as resolver
use Rattle.const_eval.specs.Evaluated.{refused_in, const_refusals}
use Rattle.kind_refusals.specs.KindRefusals as kinds
use Rattle.schema_laws.specs.Refused.{IsNamesRefusal, IsConstsRefusal, IsKindsRefusal, IsStageRefusal}
use Rattle.mojom_compile.specs.declared.schema_error.SchemaError.{SchemaError}
use Rattle.mojom_compile.specs.declared.schema_error.SchemaError.TheVariants.{Unread, Refused, Memory}
use Rattle.mojom_compile.specs.declared.source.Source.{Source}
use Rattle.mojom_compile.specs.Schemas.{IsRefusalOf, IsWhy, IsOfGiven}
use Rattle.mojom_compile.proofs.InFile.{AllIn, file_is}
use Rattle.mojom_compile.proofs.NamesInFile.{given_in, names_in}
use Rattle.mojom_compile.proofs.ConstsInFile.{consts_in}
use Rattle.mojom_compile.proofs.KindsInFile.{kinds_in}
use Rattle.mojom_compile.proofs.Trees.{trees_length}

-- each of them stands in a file whose number is below this
abbrev AllBelow : ℕ → List Refusal → Type 0
AllBelow n refusals = (r : Refusal) → IsAmong refusals r → r.file < n

-- what is said of a file that is there
there : (files : List NamedFile) (number : ℕ) (say : NamedFile → List Refusal) → ((file : NamedFile) → AllIn number (say file))
    → AllBelow (length files) (option_map_or say (slice_get files number) [])
there files number say each = go (slice_get files number) refl
  where
    go : (o : Option NamedFile) → slice_get files number ≡ o → AllBelow (length files) (option_map_or say o [])
    go None e r among = absurd among
    go (Some file) e r among =
        subst (λ (n : ℕ). n < length files) (sym (file_is number (say file) r (each file) among)) (slice_get_within files number file e)

-- the first of a file, or else that of the files behind it
next_below : (n : ℕ) (refusals : List Refusal) (others : Option Refusal) (refusal : Refusal) → AllBelow n refusals
    → (others ≡ Some refusal → refusal.file < n)
    → (o : Option Refusal) → best_of None refusals ≡ o → option_or o others ≡ Some refusal → refusal.file < n
next_below n refusals others refusal each rest None is e = rest e
next_below n refusals others refusal each rest (Some r) is e =
    let first : IsAnswered (Some r) refusals = subst (λ (o : Option Refusal). IsAnswered o refusals) is (best_is_first refusals) in
    let same : r ≡ refusal = cc in
    subst (λ (x : Refusal). x.file < n) same (each r first.among)

-- the first of all files
first_below : (n : ℕ) (say : ℕ → List Refusal) (order : List ℕ) (refusal : Refusal) → ((k : ℕ) → AllBelow n (say k))
    → first_refusal say order ≡ Some refusal → refusal.file < n
first_below n say [] refusal each e = absurd cc
first_below n say (k ∷ ks) refusal each e =
    next_below n (say k) (first_refusal say ks) refusal (each k) (first_below n say ks refusal each) (best_of None (say k)) refl e

-- the file of a circle is there, since its import has a place
circle_below : (files : List NamedFile) (refusal : Refusal) → IsCircular files refusal → refusal.file < length files
circle_below files refusal circle = go (slice_get files refusal.file) refl circle.at.place
  where
    go : (o : Option NamedFile) → slice_get files refusal.file ≡ o
        → option_and_then (import_place (file_names files) circle.at.next) o ≡ Some refusal.at → refusal.file < length files
    go None is e = absurd cc
    go (Some file) is e = slice_get_within files refusal.file file is

order_below : (files : List NamedFile) (refusal : Refusal) → IsDisordered files refusal → refusal.file < length files
order_below files refusal (inl given) =
    first_below (length files) (given_refusals_at files) (range_with_len 0 (length files)) refusal
    (λ k. there files k (given_refusals (file_names files) k) (given_in (file_names files) k)) given
order_below files refusal (inr circle) = circle_below files refusal circle.1

names_below : (files : List NamedFile) (refusal : Refusal) → IsNamesRefusal files refusal → refusal.file < length files
names_below files refusal is =
    let names = (names_of files is.order).files in
    first_below (length files) (resolver.refusals_at files is.order) (range_with_len 0 (length is.order)) refusal
    (λ k. there files (get_or is.order k 0)
    (resolver.refusals_in names (is_among (names_before files (take k is.order))) (get_or is.order k 0))
    (names_in names (is_among (names_before files (take k is.order))) (get_or is.order k 0))) is.refused

consts_below : (files : List NamedFile) (refusal : Refusal) → IsConstsRefusal files refusal → refusal.file < length files
consts_below files refusal is =
    first_below (length files) (const_refusals files is.names.files is.refused.consts) is.order refusal
    (λ k. there files k (refused_in (record { consts = is.refused.consts; names = is.names.files; file = k }))
    (consts_in (record { consts = is.refused.consts; names = is.names.files; file = k }))) is.refused.first

kinds_below : (files : List NamedFile) (refusal : Refusal) → IsKindsRefusal files refusal → refusal.file < length files
kinds_below files refusal is =
    first_below (length files) (kinds.refusals_at is.names.files is.consts files) is.order refusal
    (λ k. there files k (kinds.refusals_in is.names.files is.consts k) (kinds_in is.names.files is.consts k)) is.refused

stage_below : (files : List NamedFile) (refusal : Refusal) → IsStageRefusal files refusal → refusal.file < length files
stage_below files refusal (inl is) = order_below files refusal is
stage_below files refusal (inr (inl is)) = names_below files refusal is
stage_below files refusal (inr (inr (inl is))) = consts_below files refusal is
stage_below files refusal (inr (inr (inr is))) = kinds_below files refusal is

-- for the law of schemas: the file of a refusal is there
pub is_given : (sources : List Source) (error : SchemaError) → IsRefusalOf sources error → IsOfGiven sources error
is_given sources (Unread file refusal) is = slice_get_within sources file is.source is.is
is_given sources (Refused refusal) is =
    subst (λ (n : ℕ). refusal.file < n) (trees_length sources is.files is.trees) (stage_below is.files refusal is.refused)
is_given sources Memory is = absurd is

why_given : (sources : List Source) (error : SchemaError) → IsWhy sources error → IsOfGiven sources error
why_given sources (Unread file refusal) (inl e) = absurd cc
why_given sources (Refused refusal) (inl e) = absurd cc
why_given sources Memory why = tt
why_given sources (Unread file refusal) (inr is) = is_given sources (Unread file refusal) is
why_given sources (Refused refusal) (inr is) = is_given sources (Refused refusal) is

-- for `compile`: so is that of an answer
pub answer_given : (sources : List Source) (answer : Result Schema SchemaError) → IfErr answer (IsWhy sources) → IfErr answer (IsOfGiven sources)
answer_given sources (Ok schema) why = tt
answer_given sources (Err error) why = why_given sources error why
