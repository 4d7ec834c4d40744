use Rattle.std.proofs.Common.{◌≡◌, take}
use Rattle.mj_io.specs.Fetches.{listed}
use Rattle.mj_io.proofs.fetches.bytes_of.Given as goal

-- the bytes so far
abbrev pub invariant-loop-byte : goal.invariant-loop-byte
invariant-loop-byte l = listed l.trace ≡ take l.byte-index l.text
