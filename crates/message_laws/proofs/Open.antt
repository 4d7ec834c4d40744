-- How many brackets are open at once in the text of a value, by how many objects deep it is: each object has one, and a union within it another.
use Rattle.std.proofs.Common.{ℕ, ◌+◌, ◌*◌, ◌≤◌, max, true, false, arith}
use Rattle.wire_model.specs.Depth.{levels, levels_in}
use Rattle.wire_model.specs.Trees as values
use Rattle.wire_model.specs.Trees.{Tree, Trees, none, more}
use Rattle.value_text.specs.Brackets.{brackets, brackets_in}

both : (a b m n : ℕ) → a ≤ 2 * m + 2 → b ≤ 2 * n + 2 → max a b ≤ 2 * max m n + 2
both a b m n x y = omega arith

mutual
  pub open_behind : (t : Tree) → brackets t ≤ 2 * levels false t + 1
  open_behind (values.Flag b) = omega arith
  open_behind (values.Whole n) = omega arith
  open_behind (values.Text bs) = omega arith
  open_behind (values.Items ts) = let h = open_each ts in omega (arith, h)
  open_behind (values.Pairs ts) = let h = open_each ts in omega (arith, h)
  open_behind (values.Fields ts) = let h = open_each ts in omega (arith, h)
  open_behind (values.Member tag t) = let h = open_behind t in omega (arith, h)
  open_behind (values.Unknown tag) = omega arith
  open_behind (values.Handle i) = omega arith
  open_behind (values.Remote i v) = omega arith
  open_behind (values.Endpoint i) = omega arith
  open_behind (values.EndpointRemote i v) = omega arith
  open_behind values.Null = omega arith

  open_inline : (t : Tree) → brackets t ≤ 2 * levels true t + 2
  open_inline (values.Flag b) = omega arith
  open_inline (values.Whole n) = omega arith
  open_inline (values.Text bs) = omega arith
  open_inline (values.Items ts) = let h = open_each ts in omega (arith, h)
  open_inline (values.Pairs ts) = let h = open_each ts in omega (arith, h)
  open_inline (values.Fields ts) = let h = open_each ts in omega (arith, h)
  open_inline (values.Member tag t) = let h = open_behind t in omega (arith, h)
  open_inline (values.Unknown tag) = omega arith
  open_inline (values.Handle i) = omega arith
  open_inline (values.Remote i v) = omega arith
  open_inline (values.Endpoint i) = omega arith
  open_inline (values.EndpointRemote i v) = omega arith
  open_inline values.Null = omega arith

  open_each : (ts : Trees) → brackets_in ts ≤ 2 * levels_in ts + 2
  open_each none = omega arith
  open_each (more t ts) = both (brackets t) (brackets_in ts) (levels true t) (levels_in ts) (open_inline t) (open_each ts)
