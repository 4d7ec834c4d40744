use Rattle.std.proofs.Common.{List, [], ◌∙◌, ap}
use Rattle.std.specs.Prelude.{Option, filter}
use Rattle.std.specs.Option.{option_or, unwrap_or}
use Rattle.mojom_files.specs.Refusals.{first_of}
use Rattle.module_resolver.specs.LookUp.{defined_in, enumerated_in}
use Rattle.module_resolver.specs.declared.target.Target.{Target}
use Rattle.module_resolver.specs.Seats.{first_seen}
use Rattle.module_resolver.proofs.index.index_of.Goals as goal

pub returns-clause-is : goal.returns-clause-is
returns-clause-is c = λ p q.
    let files = c.args.files.now in
    let order = c.args.order.now in
    c.in_ok-note_all_enumerated.ensures.notes p q
    ∙ ap (λ (o : Option Target). option_or o (first_of (enumerated_in files q) (filter p order)))
    (c.in_ok-note_all_defined.ensures.notes p q
    ∙ ap (λ (o : Option (List Target)). option_or (first_seen p (unwrap_or o [])) (first_of (defined_in files q) (filter p order)))
    (c.new-index.ensures.none q))
