-- How the parameters of a message are read, with the blank behind them.
use Rattle.std.proofs.Common.{◌≡◌, ℕ, ◌-◌, List, [], ◌∷◌, length, take, drop, Ok, Err, refl, sym, ap, ◌∙◌, subst}
use Rattle.std.proofs.lemmas.List.{take_rest}
use Rattle.mj_schema.specs.KindTrees.{KindTree}
use Rattle.mj_schema.specs.declared.schema.Schema.{Schema}
use Rattle.wire_model.specs.Trees.{Tree}
use Rattle.byte_rules.specs.declared.stop.Stop.{Stop}
use Rattle.byte_rules.specs.Lang.{Lang, byte, never}
use Rattle.byte_rules.specs.Judged.{Spells, IsBad}
use Rattle.byte_rules.specs.Reading.{Fails}
use Rattle.value_text.specs.Brackets.{MAX_BRACKETS}
use Rattle.value_text.specs.Rules.{value}
use Rattle.value_text.specs.Texts.{Tells}
use Rattle.value_text.specs.declared.text_error.TextError.{TextError}
use Rattle.value_text.specs.declared.text_error.TextError.TheVariants as errors
use Rattle.value_text.proofs.KindLaws.{good_kind}
use Rattle.line_parts.specs.Signs.{blank}
use Rattle.line_parts.specs.Messages.{value_and_blank}
use Rattle.line_parts.proofs.ValueReads as reads

-- where no byte goes on
pub never_reads : {A : Type 0} (x : A) (bs : List ℕ) → (never x).read bs ≡ Err (length bs)
never_reads x [] = refl
never_reads x (b ∷ bs) = refl

-- the place of a refusal
pub refused : (one : Lang Tree) (bytes : List ℕ) (e : TextError) (at : ℕ) → e ≡ errors.BadText at → Tells one bytes (Err e) → IsBad one bytes at
refused one bytes e at is told = subst (λ (e : TextError). Tells one bytes (Err e)) is told

module _ (schema : Schema) (kind : KindTree) where
  -- the texts of the kind
  abbrev one : Lang Tree
  one = value schema MAX_BRACKETS kind

  -- all bytes are a value
  pub nothing : (bytes : List ℕ) (x : Tree) → Spells one x bytes → (value_and_blank schema kind).read bytes ≡ Err 0
  unfolding value_and_blank
  nothing bytes x s = reads.nothing_behind one (good_kind schema MAX_BRACKETS kind) blank refl bytes x s

  -- the bytes behind a place, as a slice has them
  abbrev behind : ℕ → List ℕ → List ℕ
  behind at bytes = take (length bytes - at) (drop at bytes)

  -- where a value stopped another byte stands, or none
  pub other : (bytes : List ℕ) (at : ℕ) (e : Stop) → IsBad one bytes at → Fails e ((byte blank).read (behind at bytes))
      → Fails e ((value_and_blank schema kind).read bytes)
  unfolding value_and_blank
  other bytes at e bad f = reads.other_behind one (good_kind schema MAX_BRACKETS kind) blank refl bytes at e bad
      (subst (λ (l : List ℕ). Fails e ((byte blank).read l)) (take_rest bytes at) f)

  -- a blank stands there, behind a value or not
  pub whole : (bytes after : List ℕ) (at b : ℕ) (x : Tree) → (byte blank).read (behind at bytes) ≡ Ok (b, after) → Spells one x (take at bytes)
      → (value_and_blank schema kind).read bytes ≡ Ok (x, after)
  unfolding value_and_blank
  whole bytes after at b x r s = reads.value_behind one (good_kind schema MAX_BRACKETS kind) blank refl bytes after at b x
      (ap (byte blank).read (sym (take_rest bytes at)) ∙ r) s

  pub none : (bytes : List ℕ) (at place : ℕ) → IsBad one bytes at → IsBad one (take at bytes) place
      → (value_and_blank schema kind).read bytes ≡ Err (length (behind at bytes))
  unfolding value_and_blank
  none bytes at place bad inside = reads.none_behind one (good_kind schema MAX_BRACKETS kind) blank refl bytes at bad (λ x s. inside.none x s)
      ∙ ap (λ (l : List ℕ). Err (length l)) (sym (take_rest bytes at))
