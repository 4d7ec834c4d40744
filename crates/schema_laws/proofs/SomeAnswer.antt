-- Of all files there is an answer: they pass all stages, or one stage refuses them.
use Rattle.std.proofs.Common.{◌≡◌, ℕ, List, refl, inl, inr}
use Rattle.std.specs.Prelude.{◌⊎◌, Option, Some, None}
use Rattle.mojom_files.specs.declared.named_file.NamedFile.{NamedFile}
use Rattle.mojom_files.specs.declared.refusal.Refusal.{Refusal}
use Rattle.module_resolver.specs.declared.file_names.Names.{Names}
use Rattle.module_resolver.specs.NamesOf.{names_of}
use Rattle.name_refusals.specs.NameRefusals.{names_refusal}
use Rattle.import_order.specs.Order.{IsOrdered, IsDisordered}
use Rattle.name_refusals.specs.Resolved.{AreNames}
use Rattle.const_eval.specs.declared.consts.Consts.{Consts}
use Rattle.const_eval.specs.Consts.{AreConsts}
use Rattle.const_eval.specs.Evaluated.{const_refusal, IsEvaluated}
use Rattle.kind_refusals.specs.KindRefusals.{kinds_refusal}
use Rattle.schema_laws.specs.Refused.{HasAnswer}
use Rattle.schema_laws.proofs.SomeConsts.{some_consts}
use Rattle.schema_laws.proofs.SomeOrder.{some_order}

module _ (files : List NamedFile) (order : List ℕ) (ordered : IsOrdered files order) where
  module _ (names : Names) (named : AreNames files order names) where
    kinds_or : (consts : Consts) → IsEvaluated files order names.files consts
        → (refused : Option Refusal) → kinds_refusal names.files consts files order ≡ refused → HasAnswer files
    kinds_or consts evaluated None is = inl (record {
      order = order;
      names = names;
      consts = consts;
      passed = record { ordered = ordered; named = named; evaluated = evaluated; kinds = is };
    })
    kinds_or consts evaluated (Some refusal) is = inr (
      refusal,
      inr (inr (inr (record {
        order = order;
        names = names;
        consts = consts;
        ordered = ordered;
        named = named;
        evaluated = evaluated;
        refused = is;
      }))),
    )

    consts_or : (consts : Consts) → AreConsts files names.files consts
        → (refused : Option Refusal) → const_refusal files order names.files consts ≡ refused → HasAnswer files
    consts_or consts are None is =
        kinds_or consts (record { are = are; none = is }) (kinds_refusal names.files consts files order) refl
    consts_or consts are (Some refusal) is = inr (
      refusal,
      inr (inr (inl (record {
        order = order;
        names = names;
        ordered = ordered;
        named = named;
        refused = record { consts = consts; are = are; first = is };
      }))),
    )

    named_or : HasAnswer files
    named_or =
        let consts = some_consts files names.files in
        consts_or consts.0 consts.1 (const_refusal files order names.files consts.0) refl

  names_or : (refused : Option Refusal) → names_refusal files order ≡ refused → HasAnswer files
  names_or None is = named_or (names_of files order) (record { are = refl; none_refused = is })
  names_or (Some refusal) is = inr (refusal, inr (inl (record { order = order; ordered = ordered; refused = is })))

order_or : (files : List NamedFile) → ((order : List ℕ) × IsOrdered files order) ⊎ ((refusal : Refusal) × IsDisordered files refusal) → HasAnswer files
order_or files (inl (order, ordered)) = names_or files order ordered (names_refusal files order) refl
order_or files (inr (refusal, disordered)) = inr (refusal, inl disordered)

-- files pass all stages, or one of them refuses them
pub some_answer : (files : List NamedFile) → HasAnswer files
some_answer files = order_or files (some_order files)
