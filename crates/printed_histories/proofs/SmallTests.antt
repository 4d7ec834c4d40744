-- The reasons of tests that fail have numbers of their widths.
use Rattle.std.proofs.Common.{Bool, true, false, List, [], ◌∷◌, refl}
use Rattle.std.specs.Prelude.{Option, Some, None, if◌then◌else◌}
use Rattle.handle_table.specs.declared.thing.Thing.{Thing}
use Rattle.handle_table.specs.declared.thing.Thing.TheVariants.{End, Token}
use Rattle.bind_model.specs.Data.{begun, is_busy}
use Rattle.bind_model.specs.Tests.{busy, first_of, unless}
use Rattle.bind_model.specs.declared.event.Event.{Event}
use Rattle.bind_model.specs.declared.told.Told.{Told}
use Rattle.bind_model.specs.declared.told.Why.{Why}
use Rattle.bind_model.specs.declared.told.Why.TheVariants.{Busy}
use Rattle.bind_model.proofs.Outcomes.{Passes}
use Rattle.history_reader.specs.Printable.{AreAll, IsThing, IsWhy}
use Rattle.printed_histories.proofs.SmallSaid.{IsSmallTold}

-- the reason of a test that fails
abbrev pub IsSmallTest : Option Why → Type 0
IsSmallTest None = Unit {0}
IsSmallTest (Some why) = IsWhy why

pub unless_small : (b : Bool) (why : Why) → IsWhy why → IsSmallTest (unless b why)
unless_small true why i = tt
unless_small false why i = i

-- what is done is told where all tests passed
pub first_small : (tests : List (Option Why)) (done : Told) → AreAll IsSmallTest tests → (Passes tests → IsSmallTold done)
    → IsSmallTold (first_of tests done)
first_small [] done a d = d tt
first_small (None ∷ ts) done a d = first_small ts done a.1 (λ p. d (refl, p))
first_small (Some why ∷ ts) done a d = a.0

-- the first token that is busy is one of those that are sent
pub busy_small : (past : List Event) (things : List Thing) → AreAll IsThing things → IsSmallTest (busy past things)
busy_small past [] a = tt
busy_small past (End x ∷ things) a = busy_small past things a.1
busy_small past (Token t ∷ things) a = go (is_busy (begun past t)) (busy_small past things a.1)
  where
    go : (b : Bool) → IsSmallTest (busy past things) → IsSmallTest (if b then Some (Busy t) else busy past things)
    go true rest = a.0
    go false rest = rest
