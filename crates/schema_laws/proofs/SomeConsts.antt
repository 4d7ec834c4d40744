-- Of all files and names there is what their constants and enumerators mean.
use Rattle.std.proofs.Common.{◌≡◌, ℕ, zero, suc, ◌+◌, ◌<◌, ◌≤◌, List, [], ◌∷◌, ◌++◌, length, refl, ◌∙◌, ap, subst, length-append, arith}
use Rattle.std.specs.Prelude.{Bool, true, false, Option, Some, None, slice_get}
use Rattle.mojom_files.specs.declared.named_file.NamedFile.{NamedFile}
use Rattle.module_resolver.specs.declared.file_names.FileNames.{FileNames}
use Rattle.const_eval.specs.declared.consts.Consts.{Consts}
use Rattle.const_meanings.specs.declared.meaning.Meaning.{Meaning}
use Rattle.const_meanings.specs.declared.meaning.Meaning.TheVariants.{Value, Circular, Nothing}
use Rattle.const_meanings.specs.declared.origin.Origin.{Origin}
use Rattle.const_meanings.specs.declared.origin.Origin.TheVariants.{Written, Of, Next, Missing}
use Rattle.const_meanings.specs.declared.reach.Reach.{Reach}
use Rattle.const_eval.specs.Consts.{AreConsts}
use Rattle.const_meanings.specs.Meanings.{IsMeaning, AreMeanings}
use Rattle.const_meanings.specs.Needs.{needed_by, needed, ahead, added}
use Rattle.const_eval.specs.Origins.{origins_of}
use Rattle.const_eval.specs.Things.{things_of_files}
use Rattle.const_meanings.specs.steps.Reached.{reach, AreFar, is_reached, is_written}
use Rattle.const_meanings.proofs.Reaching.{FarUpTo, far_more, far_all, value_is, circular_is, nothing_is, ends_unwritten, each_more}

-- where so many steps lead from each of the first things
reaches_to : (things : List Origin) (steps n : ℕ) → (reaches : List Reach) × FarUpTo things steps n reaches
reaches_to things steps zero = ([], record { count = refl; far = λ thing lt. let bad : ⊥ = omega (arith, lt) in absurd bad })
reaches_to things steps (suc n) =
    let before = reaches_to things steps n in
    let e : n + 1 ≡ suc n = omega arith in
    let reaches = before.0 ++ reach things steps n ∷ [] in
    (reaches, subst (λ (k : ℕ). FarUpTo things steps k reaches) e (far_more things steps n before.0 (reach things steps n) before.1 refl))

-- where as many steps lead as there are things
all_reaches : (things : List Origin) → (reaches : List Reach) × AreFar things (length things) reaches
all_reaches things =
    let all = reaches_to things (length things) (length things) in
    (all.0, far_all things (length things) (length things) all.0 refl all.1)

module _
    (things : List Origin) (reaches : List Reach) (far : AreFar things (length things) reaches)
    (thing : ℕ) (lt : thing < length things)
  where
    enough : length things ≤ length things
    enough = omega arith

    -- after so many steps more is needed: a thing to which steps lead needs itself
    circular_or : (other : ℕ) → needed things (ahead things (length things) thing) ≡ Some other
        → (reached : Bool) → is_reached reaches thing ≡ reached → (meaning : Meaning) × IsMeaning things thing meaning
    circular_or other needs true e = (Circular, circular_is things (length things) enough reaches far thing other lt needs e)
    circular_or other needs false e = (Nothing, nothing_is things (length things) enough reaches far thing other lt needs e)

    -- what stands where the steps end
    meaning_by : (last : Option Origin) → slice_get things (ahead things (length things) thing) ≡ last → (meaning : Meaning) × IsMeaning things thing meaning
    meaning_by (Some (Written literal)) e =
        (Value (ahead things (length things) thing) (added things (length things) thing), value_is things (length things) enough thing literal e)
    meaning_by (Some (Of other)) e =
        circular_or other (ap (needed_by (ahead things (length things) thing)) e) (is_reached reaches thing) refl
    meaning_by (Some Next) e =
        circular_or _ (ap (needed_by (ahead things (length things) thing)) e) (is_reached reaches thing) refl
    meaning_by (Some Missing) e =
        (Nothing, ends_unwritten things (length things) enough thing (ap (needed_by (ahead things (length things) thing)) e) (ap is_written e))
    meaning_by None e =
        (Nothing, ends_unwritten things (length things) enough thing (ap (needed_by (ahead things (length things) thing)) e) (ap is_written e))

-- each thing means something
pub some_meaning : (things : List Origin) (thing : ℕ) → thing < length things → (meaning : Meaning) × IsMeaning things thing meaning
some_meaning things thing lt =
    let reaches = all_reaches things in
    meaning_by things reaches.0 reaches.1 thing lt (slice_get things (ahead things (length things) thing)) refl

-- what the first things mean
record MeanUpTo (things : List Origin) (n : ℕ) (meanings : List Meaning) : Type 0 where
  count : length meanings ≡ n
  each : (thing : ℕ) → thing < n → (meaning : Meaning) → slice_get meanings thing ≡ Some meaning → IsMeaning things thing meaning

meanings_to : (things : List Origin) (n : ℕ) → n ≤ length things → (meanings : List Meaning) × MeanUpTo things n meanings
meanings_to things zero le = ([], record { count = refl; each = λ thing lt. let bad : ⊥ = omega (arith, lt) in absurd bad })
meanings_to things (suc n) le =
    let before = meanings_to things n (omega (arith, le)) in
    let next = some_meaning things n le in
    let e : n + 1 ≡ suc n = omega arith in
    let meanings = before.0 ++ next.0 ∷ [] in (
      meanings,
      subst (λ (k : ℕ). MeanUpTo things k meanings) e (record {
        count = length-append before.0 (next.0 ∷ []) ∙ omega (arith, before.1.count);
        each = each_more things n before.0 next.0 before.1.count before.1.each next.1;
      }),
    )

-- all things mean something
pub some_meanings : (things : List Origin) → (meanings : List Meaning) × AreMeanings things meanings
some_meanings things =
    let all = meanings_to things (length things) (omega arith) in
    (all.0, record { count = all.1.count; each = all.1.each })

-- the constants and enumerators of files mean something
pub some_consts : (files : List NamedFile) (names : List FileNames) → (consts : Consts) × AreConsts files names consts
some_consts files names =
    let means = some_meanings (origins_of files names) in
    let consts : Consts = record { files = things_of_files files; origins = origins_of files names; meanings = means.0 } in
    (consts, record { files_are = refl; origins_are = refl; meanings_are = means.1 })
