use Rattle.std.proofs.Common.{◌≡◌, ◌+◌, ℕ, refl, ◌∙◌, ap}
use Rattle.std.specs.Prelude.{Bool, Some, nat_eq, ◌==◌, if◌then◌else◌}
use Rattle.std.proofs.lemmas.Bool.{eq-eqb}
use Rattle.std.specs.HashMap.{get, get_by_text}
use Rattle.name_tree.specs.Trees.{key_of}
use Rattle.name_tree.proofs.Numbers.{Placed, node_made, numbers_kept}
use Rattle.name_tree.proofs.tree.NameTree.add.Goals as goal

pub returns-clause-tree : goal.returns-clause-tree
returns-clause-tree c =
    let old = c.args.self.now in
    let more = get nat_eq c.insert.new.self in
    let updates : (k : ℕ) → get nat_eq c.insert.new.self k ≡ (if c.key_of.result == k then Some old.nodes else get nat_eq old.below k) =
    c.in_ok-insert.ensures.updates.0 in
    let placed : Placed (get nat_eq old.below) more c.args.node c.args.number old.nodes =
    record { fresh = c.requires.fresh; writes = rw c.key_of.ensures at updates } in
    record {
      tree =
          (node_made (get_by_text old.parts) (get nat_eq old.below) more old.given c.args.node c.args.number old.nodes (old.nodes + 1)
          c.requires.tree.tree c.requires.tree.numbers c.requires.given c.requires.there placed refl).0;
      numbers =
          numbers_kept (get_by_text old.parts) (get nat_eq old.below) more old.given c.args.node c.args.number old.nodes c.requires.tree.numbers
          c.requires.given placed;
    }

pub returns-clause-grows : goal.returns-clause-grows
returns-clause-grows c =
    let old = c.args.self.now in
    let more = get nat_eq c.insert.new.self in
    let updates : (k : ℕ) → get nat_eq c.insert.new.self k ≡ (if c.key_of.result == k then Some old.nodes else get nat_eq old.below k) =
    c.in_ok-insert.ensures.updates.0 in
    let placed : Placed (get nat_eq old.below) more c.args.node c.args.number old.nodes =
    record { fresh = c.requires.fresh; writes = rw c.key_of.ensures at updates } in
    (node_made (get_by_text old.parts) (get nat_eq old.below) more old.given c.args.node c.args.number old.nodes (old.nodes + 1) c.requires.tree.tree
    c.requires.tree.numbers c.requires.given c.requires.there placed refl).1

pub returns-clause-is : goal.returns-clause-is
returns-clause-is c =
    let old = c.args.self.now in
    let key = key_of c.args.node c.args.number in
    let updates : (k : ℕ) → get nat_eq c.insert.new.self k ≡ (if c.key_of.result == k then Some old.nodes else get nat_eq old.below k) =
    c.in_ok-insert.ensures.updates.0 in
    let writes : (k : ℕ) → get nat_eq c.insert.new.self k ≡ (if key == k then Some old.nodes else get nat_eq old.below k) = rw c.key_of.ensures at updates in
    writes key ∙ ap (λ (b : Bool). if b then Some old.nodes else get nat_eq old.below key) (eq-eqb key key refl)
