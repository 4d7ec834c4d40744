use Rattle.std.proofs.Common.{ap, refl, Option, Some, None, [], option_map, ◌≡◌, ◌∙◌}
use Rattle.std.specs.Option.{unwrap_or}
use Rattle.std.specs.Borrow.{Bor}
use Rattle.clap.specs.Words.{Text, found_of}
use Rattle.clap.proofs.WalkLemmas.{first_value-rows}
use Rattle.command_line.proofs.read.text_of.Goals as goal

now_or : (o : Option (Bor Text)) (d r : Bor Text) → r ≡ unwrap_or o d → d.now ≡ [] → r.now ≡ unwrap_or (option_map (λ s. s.now) o) []
now_or None d r e none = ap (λ (s : Bor Text). s.now) e ∙ none
now_or (Some s) d r e none = ap (λ (x : Bor Text). x.now) e

pub returns : goal.returns
returns c = now_or c.get_str.result _ c.unwrap_or.result c.unwrap_or.ensures refl
    ∙ ap (λ (t : Option Text). unwrap_or t []) (c.get_str.ensures ∙ first_value-rows (found_of c.args.matches.now) c.args.name.now)
