use Rattle.std.proofs.Common.{◌≡◌, ℕ, drop}
use Rattle.std.specs.Prelude.{None}
use Rattle.mojom_files.specs.Refusals.{first_of, best_of}
use Rattle.const_eval.specs.Evaluated.{const_refusals, const_refusal}
use Rattle.const_eval.proofs.stage.refusal.Given as goal

abbrev pub invariant-loop-file : goal.invariant-loop-file
invariant-loop-file l =
    const_refusal l.files l.order l.names.files l.consts
    ≡ first_of (λ (file : ℕ). best_of None (const_refusals l.files l.names.files l.consts file)) (drop l.file-index l.order)
