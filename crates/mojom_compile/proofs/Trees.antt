-- Trees of files in a row.
use Rattle.std.proofs.Common.{◌≡◌, ℕ, zero, suc, ◌+◌, List, [], ◌∷◌, ◌++◌, length, take, refl, sym, ap, subst, inl, inr, arith}
use Rattle.std.specs.Prelude.{slice_get, Some}
use Rattle.std.proofs.lemmas.Option.{same_Some}
use Rattle.mojom_files.specs.declared.named_file.NamedFile.{NamedFile}
use Rattle.mojom_compile.specs.declared.schema_error.SchemaError.{SchemaError}
use Rattle.mojom_compile.specs.declared.schema_error.SchemaError.TheVariants.{Unread, Refused, Memory}
use Rattle.mojom_compile.specs.declared.source.Source.{Source}
use Rattle.mojom_compile.specs.Schemas.{IsTreeOf, AreTreesOf, IsWhy}
use Rattle.mojom_compile.specs.steps.Stages.{IsUnreadFile}

trees_next : (sources : List Source) (files : List NamedFile) (k : ℕ) (source : Source) (file : NamedFile) → slice_get sources k ≡ Some source
    → AreTreesOf (take k sources) files → IsTreeOf source file → AreTreesOf (take (suc k) sources) (files ++ file ∷ [])
trees_next [] files k source file at are is = absurd cc
trees_next (s ∷ ss) [] zero source file at are is = (subst (λ (x : Source). IsTreeOf x file) (sym (same_Some s source at)) is, tt)
trees_next (s ∷ ss) (f ∷ fs) zero source file at are is = absurd are
trees_next (s ∷ ss) [] (suc k) source file at are is = absurd are
trees_next (s ∷ ss) (f ∷ fs) (suc k) source file at are is = (are.0, trees_next ss fs k source file at are.1 is)

-- one more
pub trees_push : (sources : List Source) (files : List NamedFile) (k : ℕ) (source : Source) (file : NamedFile) → slice_get sources k ≡ Some source
    → AreTreesOf (take k sources) files → IsTreeOf source file → AreTreesOf (take (k + 1) sources) (files ++ file ∷ [])
trees_push sources files k source file at are is =
    let e : suc k ≡ k + 1 = omega arith in
    subst (λ (n : ℕ). AreTreesOf (take n sources) (files ++ file ∷ [])) e (trees_next sources files k source file at are is)

-- as many as the files
pub trees_length : (sources : List Source) (files : List NamedFile) → AreTreesOf sources files → length files ≡ length sources
trees_length [] [] are = refl
trees_length [] (f ∷ fs) are = absurd are
trees_length (s ∷ ss) [] are = absurd are
trees_length (s ∷ ss) (f ∷ fs) are = ap suc (trees_length ss fs are.1)

-- a file without a tree behind those that have one is the first
pub first_unread : (sources : List Source) (files : List NamedFile) (k : ℕ) (source : Source) (error : SchemaError) → slice_get sources k ≡ Some source
    → AreTreesOf (take k sources) files → IsUnreadFile k source error → IsWhy sources error
first_unread sources files k source (Unread file refusal) at are why = inr (record {
  before = files;
  trees = subst (λ (n : ℕ). AreTreesOf (take n sources) files) (sym why.0) are;
  source = source;
  is = subst (λ (n : ℕ). slice_get sources n ≡ Some source) (sym why.0) at;
  unread = why.1;
})
first_unread sources files k source (Refused refusal) at are why = absurd why
first_unread sources files k source Memory at are why = inl refl
