use Rattle.std.proofs.Common.{◌≡◌, refl, ℕ, List, ◌∷◌, [], sym, ◌∙◌, ap, rules}
use Rattle.std.specs.Prelude.{Bool, Option, Some, None, nat_eq, ◌==◌, if◌then◌else◌}
use Rattle.std.specs.Option.{option_or, unwrap_or}
use Rattle.std.specs.HashMap.{get}
use Rattle.module_resolver.specs.declared.target.Target.{Target}
use Rattle.module_resolver.specs.Seats.{file_of, first_seen}
use Rattle.module_resolver.specs.steps.Owners.{where_seen}
use Rattle.module_resolver.proofs.Owned.{on_ok_then}
use Rattle.module_resolver.proofs.name_index.add_owner.Goals as goal

pub returns-in-Some : goal.returns-in-Some
returns-in-Some c =
    let there : get nat_eq c.args.owners.now c.args.node ≡ Some c.in-Some.known.now = sym c.in-Some.ensures.value in
    let all = (c.get_mut.follows.holds c.add.new.self).3 (search rules) in
    let target = c.args.target in
    on_ok_then c.add.result
    (λ (is : (p : ℕ → Bool)
    → first_seen p c.add.new.self ≡ option_or (first_seen p c.in-Some.known.now) (where_seen p (file_of target) (Some target))).
    record {
      list = c.add.new.self;
      adds = λ p. is p
          ∙ ap (λ (o : Option (List Target)). option_or (first_seen p (unwrap_or o [])) (where_seen p (file_of target) (Some target))) (sym there);
      writes = all.0;
    })
    c.add.ensures

pub returns : goal.returns
returns c =
    let old = c.get_mut.follows.lender-at-none in
    let same : old ≡ c.args.owners.now = search (rules, c.get_mut.follows.holds-at-none) in
    let fresh : get nat_eq c.args.owners.now c.args.node ≡ None = sym c.in_default.ensures.value in
    let updates : (n : ℕ) → get nat_eq c.insert.new.self n ≡ (if c.args.node == n then Some c.new.result else get nat_eq old n) =
    c.in_ok-insert.ensures.updates.0 in
    record { list = c.args.target ∷ []; adds = λ p. rw fresh refl; writes = rw (same, c.new.ensures) at updates }
