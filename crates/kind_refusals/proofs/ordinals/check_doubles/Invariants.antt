use Rattle.std.proofs.Common.{◌≡◌, ℕ, drop, take, map, []}
use Rattle.std.specs.Prelude.{◌&&◌}
use Rattle.std.specs.BTreeSet.{contains}
use Rattle.std.specs.Ordering.{nat_cmp}
use Rattle.mojom_files.specs.Refusals.{best_of}
use Rattle.kind_scope.specs.Views.{numbered_view, scope_view}
use Rattle.kind_refusals.specs.OrdinalRefusals.{is_among, ordinals_of, doubled, refused_double, refused_doubles}
use Rattle.kind_refusals.specs.KindRefusals.{is_empty}
use Rattle.kind_refusals.proofs.ordinals.check_doubles.Given as goal

-- what is left, where the ordinals that were passed stand before it
abbrev pub invariant-loop-one : goal.invariant-loop-one
invariant-loop-one l = record {
  seen : (q : ℕ) → contains nat_cmp l.seen q ≡ is_among (ordinals_of (map numbered_view (take l.one-index l.members))) q;
  kept :
      best_of l.best
      (map (refused_double (scope_view l.scope))
      (doubled (ordinals_of (map numbered_view (take l.one-index l.members))) (map numbered_view (drop l.one-index l.members))))
      ≡ best_of l.fn.best (refused_doubles (scope_view l.scope) (map numbered_view l.members));
  distinct : l.distinct && is_empty (doubled (ordinals_of (map numbered_view (take l.one-index l.members))) (map numbered_view (drop l.one-index l.members)))
      ≡ is_empty (doubled [] (map numbered_view l.members));
}
