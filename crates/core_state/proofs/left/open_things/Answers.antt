use Rattle.std.proofs.Common.{ap, ◌∙◌, ◌++◌}
use Rattle.core_state.specs.Numbering.{all_made, open_in}
use Rattle.core_state.specs.declared.left.Sort.TheVariants.{Ends, Tokens}
use Rattle.core_state.proofs.left.open_things.Goals as goal

pub push_all-requires : goal.push_all-requires
push_all-requires c = c.requires Ends

pub push_all-requires-2 : goal.push_all-requires-2
push_all-requires-2 c = c.requires Tokens

pub returns : goal.returns
returns c =
    let table = c.args.places.now in
    c.in_ok-push_all-2.ensures
    ∙ ap (λ things. things ++ open_in table (all_made Tokens table c.args.seqs))
    (c.in_ok-push_all.ensures ∙ ap (λ things. things ++ open_in table (all_made Ends table c.args.seqs)) c.new-things.ensures.items)
