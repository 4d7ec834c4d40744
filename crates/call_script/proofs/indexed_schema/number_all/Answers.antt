use Rattle.std.proofs.Common.{◌≡◌, ℕ, List, [], refl, sym, ◌∙◌, subst, arith}
use Rattle.std.specs.Prelude.{Option, None, nat_eq}
use Rattle.std.proofs.lemmas.List.{take_all}
use Rattle.indexmap.specs.IndexMap.{get}
use Rattle.name_tree.specs.Walks.{walk}
use Rattle.name_tree.specs.Trees.{child}
use Rattle.mj_schema.specs.declared.rows.InterfaceRow.{InterfaceRow}
use Rattle.call_script.specs.steps.Interfaces.{number_at, AreNumbered, IsNoted, StandsAt}
use Rattle.call_script.proofs.Interfaces.{none_kept, none_numbered, numbered_more}
use Rattle.call_script.proofs.indexed_schema.number_all.Goals as goal

pub loop-number-init : goal.loop-number-init
loop-number-init c =
    let empty : (n : ℕ) → get nat_eq c.new-numbers.result n ≡ None = λ n. rw c.new-numbers.ensures.empty refl in
    let root = c.new-tree.ensures.root in
    record {
      kept = record { tree_is = c.new-tree.ensures.tree; root = omega (arith, root); inside = λ n le. empty n };
      stands = refl;
      numbered = λ q.
          none_kept (get nat_eq c.new-numbers.result) empty (walk (child c.new-tree.result) 0 [] q) ∙ sym (none_numbered c.args.interfaces.now q);
    }

pub loop-number-preserved : goal.loop-number-preserved
loop-number-preserved c =
    let old = number_at c.loop-number.tree (get nat_eq c.loop-number.numbers) in
    let new = number_at c.note.new.tree (get nat_eq c.note.new.numbers) in
    let here = c.in_ok-at.ensures in
    let number = c.loop-number.number in
    record {
      kept = here.kept;
      stands = subst (λ (o : Option (List ℕ)). StandsAt c.note.new.tree o c.in_ok-at.at) (sym c.in_ok-around.ensures) here.stands;
      numbered =
          numbered_more old new c.args.interfaces.now number c.index-interfaces-number.result c.loop-number.invariant.numbered
          c.index-interfaces-number.is c.loop-number-test.true
          (subst (λ (t : List ℕ). IsNoted old new t number) (sym c.parts-name.ensures) here.noted);
    }

pub returns : goal.returns
returns c =
    let numbers = number_at c.loop-number.tree (get nat_eq c.loop-number.numbers) in
    subst (λ (rows : List InterfaceRow). AreNumbered numbers rows)
    (take_all c.loop-number.number c.args.interfaces.now c.loop-number-test.false) c.loop-number.invariant.numbered
