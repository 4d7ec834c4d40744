use Rattle.std.proofs.Common.{arith, ◌≡◌, ◌+◌, ◌<◌, ℕ, List, refl, ◌∙◌}
use Rattle.std.specs.Prelude.{Some, true, string_bytes, nat_eq}
use Rattle.std.specs.Str.{bytes_eq}
use Rattle.std.specs.Map.{update}
use Rattle.std.proofs.lemmas.Map.Text.{hash_map_updates_text}
use Rattle.std.proofs.lemmas.Slice.Eq.{bytes_eq-Decides}
use Rattle.std.specs.HashMap.{get, get_by_text}
use Rattle.name_tree.specs.Trees.{child}
use Rattle.name_tree.proofs.Steps.{same_tree}
use Rattle.name_tree.proofs.Numbers.{number_given, found_as_before}
use Rattle.name_tree.proofs.tree.NameTree.give.Goals as goal

pub returns-clause-numbers : goal.returns-clause-numbers
returns-clause-numbers c =
    let old = c.args.self.now in
    let key = c.in_ok-part.part in
    let more = c.insert.new.self in
    let numbers = c.requires.tree.numbers in
    let updates : (other : List ℕ) → get_by_text more other ≡ update bytes_eq (get_by_text old.parts) (string_bytes key) (Some old.given) other =
    hash_map_updates_text (string_bytes key) old.parts more _ c.in_ok-insert.ensures.updates in
    let writes : (other : List ℕ) → get_by_text more other ≡ update bytes_eq (get_by_text old.parts) c.args.part.now (Some old.given) other =
    rw c.in_ok-part.ensures.ok at updates in
    let below = numbers.few in
    let others = c.if-number.false in
    let few : old.given + 1 < 4294967296 = omega (arith, below, others) in
    let same = found_as_before (get_by_text old.parts) (get_by_text more) (get nat_eq old.below) old.given c.args.part.now numbers c.requires.fresh writes in
    record {
      names = record {
        tree = same_tree (child old) _ old.nodes same c.requires.tree.tree;
        numbers =
            number_given (get_by_text old.parts) (get_by_text more) (get nat_eq old.below) old.given (old.given + 1) c.args.part.now numbers writes
            refl few;
      };
      same = same;
      nodes = refl;
    }

pub returns-clause-is : goal.returns-clause-is
returns-clause-is c =
    let old = c.args.self.now in
    let key = c.in_ok-part.part in
    let more = c.insert.new.self in
    let part = c.args.part.now in
    let updates : (other : List ℕ) → get_by_text more other ≡ update bytes_eq (get_by_text old.parts) (string_bytes key) (Some old.given) other =
    hash_map_updates_text (string_bytes key) old.parts more _ c.in_ok-insert.ensures.updates in
    let writes : (other : List ℕ) → get_by_text more other ≡ update bytes_eq (get_by_text old.parts) part (Some old.given) other =
    rw c.in_ok-part.ensures.ok at updates in
    let same : bytes_eq part part ≡ true = (bytes_eq-Decides part part).1 refl in
    writes part ∙ rw same refl
