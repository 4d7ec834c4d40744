use Rattle.std.proofs.Common.{◌<◌, ◌≤◌, ℕ, List, [], ◌++◌, length, take, drop, get_or, ◌∙◌, ap, sym, subst, arith}
use Rattle.std.proofs.lemmas.List.{get_or_read, take_at}
use Rattle.import_order.specs.Imports.{is_free, IsTakenInOrder}
use Rattle.import_order.specs.steps.Taking.{times, AreBelow, NumberList}
use Rattle.import_order.proofs.Walks.{found_below, free_left, taken_more}
use Rattle.import_order.proofs.Counts.{importers_below}
use Rattle.import_order.proofs.Frees.{IsCounted, counted_first, free_next, free_none, enough, counted_on}
use Rattle.import_order.proofs.taking.take_behind.Goals as goal

pub loop-file-init : goal.loop-file-init
loop-file-init c = record {
  limit = ap (λ (v : NumberList). v.limit) c.in_ok-taken.ensures;
  in_order =
      subst (λ (v : NumberList). IsTakenInOrder c.args.imports.now v.numbers) (sym c.in_ok-taken.ensures)
      (λ k lt. absurd (let bad : ⊥ = omega (arith, lt) in bad));
  counted =
      subst (λ (v : NumberList). IsCounted c.args.imports.now v.numbers c.in_ok-left.left.items c.count_imports.new.free) (sym c.in_ok-taken.ensures)
      (counted_first c.args.imports.now c.in_ok-left.left.items c.count_imports.new.free c.in_ok-left.ensures.counts c.in_ok-left.ensures.free);
}

pub push-requires-clause-below : goal.push-requires-clause-below
push-requires-clause-below c =
    rw c.loop-file.invariant.limit
    (found_below (is_free c.args.imports.now c.loop-file.taken.numbers) (length c.args.imports.now) c.in-Some.file
    (free_next c.args.imports.now c.loop-file.taken.numbers c.loop-file.left.items c.loop-file.free c.pop.new.self c.in-Some.file
    c.loop-file.invariant.counted c.in-Some.ensures.least c.in-Some.ensures.above))

pub push-requires-clause-fresh : goal.push-requires-clause-fresh
push-requires-clause-fresh c =
    free_left c.args.imports.now c.loop-file.taken.numbers c.in-Some.file
    (free_next c.args.imports.now c.loop-file.taken.numbers c.loop-file.left.items c.loop-file.free c.pop.new.self c.in-Some.file
    c.loop-file.invariant.counted c.in-Some.ensures.least c.in-Some.ensures.above)

pub bounds-importers-file : goal.bounds-importers-file
bounds-importers-file c =
    let lt =
    (found_below (is_free c.args.imports.now c.loop-file.taken.numbers) (length c.args.imports.now) c.in-Some.file
    (free_next c.args.imports.now c.loop-file.taken.numbers c.loop-file.left.items c.loop-file.free c.pop.new.self c.in-Some.file
    c.loop-file.invariant.counted c.in-Some.ensures.least c.in-Some.ensures.above)) in
    let long = c.requires.long in
    omega (arith, lt, long)

pub count_down-requires-clause-below : goal.count_down-requires-clause-below
count_down-requires-clause-below c =
    let lt =
    (found_below (is_free c.args.imports.now c.loop-file.taken.numbers) (length c.args.imports.now) c.in-Some.file
    (free_next c.args.imports.now c.loop-file.taken.numbers c.loop-file.left.items c.loop-file.free c.pop.new.self c.in-Some.file
    c.loop-file.invariant.counted c.in-Some.ensures.least c.in-Some.ensures.above)) in
    let long = c.requires.long in
    let within : c.in-Some.file < length c.args.importers.now = omega (arith, lt, long) in
    let waits = c.as_slice-waiting.ensures
    ∙ get_or_read c.args.importers.now c.in-Some.file c.index-importers-file.result within c.index-importers-file.is [] in
    subst (λ (limit : ℕ). AreBelow limit c.as_slice-waiting.result.now)
    (sym (ap (λ (xs : List ℕ). length xs) c.as_mut_slice.ensures.value ∙ c.loop-file.invariant.counted.long))
    (subst (λ (xs : List ℕ). AreBelow (length c.args.imports.now) xs) (sym waits)
    (importers_below c.args.imports.now c.args.importers.now c.in-Some.file c.requires.are))

pub count_down-requires-clause-enough : goal.count_down-requires-clause-enough
count_down-requires-clause-enough c = λ k.
    let next =
    (free_next c.args.imports.now c.loop-file.taken.numbers c.loop-file.left.items c.loop-file.free c.pop.new.self c.in-Some.file
    c.loop-file.invariant.counted c.in-Some.ensures.least c.in-Some.ensures.above) in
    let lt = found_below (is_free c.args.imports.now c.loop-file.taken.numbers) (length c.args.imports.now) c.in-Some.file next in
    let fresh = free_left c.args.imports.now c.loop-file.taken.numbers c.in-Some.file next in
    let long = c.requires.long in
    let within : c.in-Some.file < length c.args.importers.now = omega (arith, lt, long) in
    let waits = c.as_slice-waiting.ensures
    ∙ get_or_read c.args.importers.now c.in-Some.file c.index-importers-file.result within c.index-importers-file.is [] in
    subst (λ (xs : List ℕ). times k xs ≤ get_or c.as_mut_slice.result.now k 0) (sym waits)
    (subst (λ (xs : List ℕ). times k (get_or c.args.importers.now c.in-Some.file []) ≤ get_or xs k 0) (sym c.as_mut_slice.ensures.value)
    (enough c.args.imports.now c.args.importers.now c.loop-file.taken.numbers c.loop-file.left.items c.loop-file.free
    c.in-Some.file c.requires.are c.loop-file.invariant.counted fresh k))

pub loop-file-preserved : goal.loop-file-preserved
loop-file-preserved c =
    let next =
    (free_next c.args.imports.now c.loop-file.taken.numbers c.loop-file.left.items c.loop-file.free c.pop.new.self c.in-Some.file
    c.loop-file.invariant.counted c.in-Some.ensures.least c.in-Some.ensures.above) in
    let lt = found_below (is_free c.args.imports.now c.loop-file.taken.numbers) (length c.args.imports.now) c.in-Some.file next in
    let fresh = free_left c.args.imports.now c.loop-file.taken.numbers c.in-Some.file next in
    let long = c.requires.long in
    let within : c.in-Some.file < length c.args.importers.now = omega (arith, lt, long) in
    let waits = c.as_slice-waiting.ensures
    ∙ get_or_read c.args.importers.now c.in-Some.file c.index-importers-file.result within c.index-importers-file.is [] in
    let kept = c.count_down.auto.left in
    let all = take c.loop-file.left.len (c.count_down.new.left ++ drop (length c.count_down.new.left) c.loop-file.left.items) in
    record {
      limit = ap (λ (v : NumberList). v.limit) c.in_ok-push.ensures.ok ∙ c.loop-file.invariant.limit;
      in_order =
          subst (λ (v : NumberList). IsTakenInOrder c.args.imports.now v.numbers) (sym c.in_ok-push.ensures.ok)
          (taken_more c.args.imports.now c.loop-file.taken.numbers c.in-Some.file c.loop-file.invariant.in_order next);
      counted =
          subst (λ (v : NumberList). IsCounted c.args.imports.now v.numbers all c.count_down.new.free) (sym c.in_ok-push.ensures.ok)
          (counted_on c.args.imports.now c.args.importers.now c.loop-file.taken.numbers c.loop-file.left.items
          c.count_down.new.left c.loop-file.free c.pop.new.self c.count_down.new.free c.as_slice-waiting.result.now
          c.as_mut_slice.result.now all c.in-Some.file c.requires.are c.loop-file.invariant.counted c.in-Some.ensures.least
          c.in-Some.ensures.above fresh waits c.as_mut_slice.ensures.value kept c.in_ok-count_down.ensures.counts
          c.in_ok-count_down.ensures.free
          (take_at c.count_down.new.left (drop (length c.count_down.new.left) c.loop-file.left.items) c.loop-file.left.len
          (kept ∙ c.as_mut_slice.ensures.len)));
    }

pub returns-clause-whole : goal.returns-clause-whole
returns-clause-whole c = record {
  in_order = c.loop-file.invariant.in_order;
  none_next =
      free_none c.args.imports.now c.loop-file.taken.numbers c.loop-file.left.items c.loop-file.free c.loop-file.invariant.counted
      c.in_default.ensures.none;
}
