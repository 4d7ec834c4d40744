-- What two messages have in common.
use Rattle.std.specs.Prelude.{◌≡◌, ℕ, ◌≤◌, List}
use Rattle.mj_base.specs.Bytes.{number32}
use Rattle.mj_schema.specs.KindTrees.{KindTree}
use Rattle.wire_model.specs.HeaderMarks.{header_marks}
use Rattle.wire_model.specs.Marks.{Mark, Next}
use Rattle.wire_model.specs.Message.{ids_read, moment_read, payload_end, payload_start, request_read}
use Rattle.wire_model.specs.Stands.{IsFine}
use Rattle.wire_model.specs.Trees.{Tree, Trees}
use Rattle.wire_model.specs.Values.{Behind}
use Rattle.same_messages.specs.steps.Agreed.{Agreed}

-- the same marks and the same value
pub record Same (ms' ms : List Mark) (t' t : Tree) : Type 0 where
  pub marks : ms' ≡ ms
  pub value : t' ≡ t

-- of slots
pub record SameAll (ms' ms : List Mark) (ts' ts : Trees) : Type 0 where
  pub marks : ms' ≡ ms
  pub values : ts' ≡ ts

-- what is met behind pointers, where the marks of the first are fine and the other agrees in their objects
abbrev pub AreSameBehind : List ℕ → List ℕ → Next → Next → Behind → Behind → Type 0
AreSameBehind bytes other next next' then_ then' =
    (from q : ℕ) (k : KindTree) → IsFine (next from q k) → Agreed bytes other (next from q k)
    → Same (next' from q k) (next from q k) (then' from q k) (then_ from q k)

-- all that a header says; below version 2 the payload ends with the message
pub record SameHeader (bytes other : List ℕ) : Type 0 where
  pub marks : header_marks other ≡ header_marks bytes
  pub name : number32 other 12 ≡ number32 bytes 12
  pub flags : number32 other 16 ≡ number32 bytes 16
  pub request : request_read other ≡ request_read bytes
  pub moment : moment_read other ≡ moment_read bytes
  pub start : payload_start other ≡ payload_start bytes
  pub end : payload_end bytes ≤ payload_end other
  pub ids : ids_read other ≡ ids_read bytes
