-- The bytes that a control's payload needs.
use Rattle.std.specs.Prelude.{◌≡◌, ℕ, ◌+◌, ◌≤◌, List, length}
use Rattle.mj_base.specs.Bytes.{number32}
use Rattle.control_bytes.specs.declared.kinds.TheConstants.{SHORT_BYTES, LONG_BYTES}

-- a payload at a place has the bytes that its size says
pub record HasRoom (bytes : List ℕ) (at : ℕ) : Type 0 where
  pub short : at + SHORT_BYTES ≤ length bytes
  pub long : number32 bytes at ≡ LONG_BYTES → at + LONG_BYTES ≤ length bytes
