-- Pairs that are reached have no reason where none is found.
use Rattle.std.proofs.Common.{◌≡◌, ℕ, zero, suc, cond, [], Option, Some, None}
use Rattle.std.specs.Option.{option_map_or}
use Rattle.mj_schema.specs.declared.rows.DefinitionRow.{DefinitionRow}
use Rattle.mj_schema.specs.declared.schema.Schema.{Schema}
use Rattle.compat_model.specs.declared.pair.Pair.{Pair}
use Rattle.compat_model.specs.declared.reason.Change.TheVariants as changes
use Rattle.compat_model.specs.steps.Among.{IsAmong}
use Rattle.compat_model.specs.Members.{first_found}
use Rattle.compat_model.specs.Pairs.{pair_reason}
use Rattle.compat_model.specs.Verdicts.{is_stable, name_of, namesakes, root_pairs, paired, roots, partner_reason, root_reason, reached, reason_at, IsCompatible}
use Rattle.compat_model.proofs.Lists.{by_test, of_flat, none_found}

module _ (old new : Schema) where
  partner_quiet : (d : DefinitionRow) (o : Option ℕ) (p : Pair) → partner_reason old new d o ≡ None
      → IsAmong (option_map_or (paired d.sort d.number) o []) p → pair_reason old new (namesakes old new) p ≡ None
  partner_quiet d None p none g = absurd g
  partner_quiet d (Some j) p none g =
      by_test (is_stable new d.sort j)
      (λ t. cond t (first_found (pair_reason old new (namesakes old new)) (paired d.sort d.number j))
      (Some (record { change = changes.NotStable; name = name_of old d.sort d.number })) ≡ None
      → pair_reason old new (namesakes old new) p ≡ None)
      (λ _ quiet. none_found (pair_reason old new (namesakes old new)) (paired d.sort d.number j) p quiet g)
      (λ _ some_. absurd cc) none

  -- a pair of a root has no reason where no root has one
  pub quiet_roots : reason_at old new zero ≡ None → (p : Pair) → IsAmong (reached old new zero) p → pair_reason old new (namesakes old new) p ≡ None
  quiet_roots none p h =
      let root = of_flat root_pairs (roots old new) p h in
      partner_quiet root.0.definition root.0.partner p (none_found (root_reason old new) (roots old new) root.0 none root.1) root.2

  -- so has a pair that is reached in any number of steps
  pub quiet : IsCompatible old new → (p : Pair) (n : ℕ) → IsAmong (reached old new n) p → pair_reason old new (namesakes old new) p ≡ None
  quiet ok p zero h = quiet_roots (ok zero) p h
  quiet ok p (suc n) h = none_found (pair_reason old new (namesakes old new)) (reached old new (suc n)) p (ok (suc n)) h
