use Rattle.std.proofs.Common.{rules, ap, Option, List, [], ◌≡◌, ◌∙◌, option_map}
use Rattle.std.specs.Option.{unwrap_or}
use Rattle.std.specs.Borrow.{Bor}
use Rattle.clap.specs.Words.{Text, found_of, rows_of}
use Rattle.clap.proofs.WalkLemmas.{raw_values-rows}
use Rattle.command_line.specs.Asked.{texts, texts_at}
use Rattle.command_line.proofs.read.texts_of.Goals as goal
use Rattle.command_line.proofs.read.texts_of.Goals.{in-Some+in_ok-extend_from_slice, in_default}

pub returns : goal.returns
returns c =
    let rows = rows_of (found_of c.args.matches.now) in
    let found : unwrap_or (option_map (λ (s : Bor (List (Bor Text))). texts s.now) c.get_raw.result) [] ≡ texts_at c.args.name.now rows =
    ap (λ (t : Option (List Text)). unwrap_or t []) (c.get_raw.ensures ∙ raw_values-rows (found_of c.args.matches.now) c.args.name.now) in
    elim c.match-get_raw.branch [
      | in-Some+in_ok-extend_from_slice w ↦ search rules
      | in_default w ↦ search rules
    ]
