-- Numbers that bytes give are no greater than their bits allow.
use Rattle.std.proofs.Common.{ℕ, zero, suc, ◌+◌, ◌^◌, ◌<◌, Bool, true, false, List, [], ◌∷◌, slice_index, arith}
use Rattle.std.specs.Int.{cast_signed, w32}
use Rattle.std.specs.Prelude.{FitsSigned}
use Rattle.std.proofs.lemmas.List.Elements.{All-head, All-tail}
use Rattle.std.proofs.Math.Facts.{sfits_to_z}
use Rattle.mj_base.specs.Bytes.{number16, number32, number64}
use Rattle.mj_schema.specs.Sizes.{bits_of}
use Rattle.mj_schema.specs.declared.kind.Width.{Width}
use Rattle.mj_schema.specs.declared.kind.Width.TheVariants.{Bits8, Bits16, Bits32, Bits64}
use Rattle.wire_model.specs.Kinded.{IsInRange}
use Rattle.wire_model.specs.Values.{int_at, whole_at}
use Rattle.message_laws.specs.Filled.{AreBytes}

byte_small : (bytes : List ℕ) (at : ℕ) → AreBytes bytes → slice_index bytes at < 2 ^ 8
byte_small [] at h = omega arith
byte_small (b ∷ bs) zero h = All-head (λ (n : ℕ). n < 2 ^ 8) b bs h
byte_small (b ∷ bs) (suc at) h = byte_small bs at (All-tail (λ (n : ℕ). n < 2 ^ 8) b bs h)

module _ (bytes : List ℕ) (small : AreBytes bytes) where
  small16 : (at : ℕ) → number16 bytes at < 2 ^ 16
  unfolding number16
  small16 at = omega (arith, byte_small bytes at small, byte_small bytes (at + 1) small)

  pub small32 : (at : ℕ) → number32 bytes at < 2 ^ 32
  unfolding number32
  small32 at =
      let a = byte_small bytes at small in
      let b = byte_small bytes (at + 1) small in
      let c = byte_small bytes (at + 2) small in
      let d = byte_small bytes (at + 3) small in
      omega arith

  small64 : (at : ℕ) → number64 bytes at < 2 ^ 64
  unfolding number64
  small64 at = omega (arith, small32 at, small32 (at + 4))

  small_int : (w : Width) (at : ℕ) → int_at w bytes at < 2 ^ bits_of w
  small_int Bits8 at = byte_small bytes at small
  small_int Bits16 at = small16 at
  small_int Bits32 at = small32 at
  small_int Bits64 at = small64 at

  -- an integer is in its range
  pub in_range : (w : Width) (signed : Bool) (at : ℕ) → IsInRange w signed (whole_at w signed bytes at)
  in_range w false at = small_int w at
  in_range Bits8 true at = sfits_to_z (record { fits = small_int Bits8 at })
  in_range Bits16 true at = sfits_to_z (record { fits = small_int Bits16 at })
  in_range Bits32 true at = sfits_to_z (record { fits = small_int Bits32 at })
  in_range Bits64 true at = sfits_to_z (record { fits = small_int Bits64 at })

  -- and so is the number of a member
  pub member_in_range : (at : ℕ) → FitsSigned w32 (cast_signed w32 (number32 bytes at))
  member_in_range at = sfits_to_z (record { fits = small32 at })
