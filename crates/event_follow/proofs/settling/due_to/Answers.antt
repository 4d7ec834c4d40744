use Rattle.std.proofs.Common.{ap, sym, ◌∙◌}
use Rattle.std.specs.Option.{option_copied, option_map}
use Rattle.call_script.specs.declared.script.AutoReply.{AutoReply}
use Rattle.script_names.specs.Autos.{Due}
use Rattle.event_follow.proofs.settling.due_to.Goals as goal

pub returns-in-Some : goal.returns-in-Some
returns-in-Some c =
    ap (option_map {U = Due} (λ (reply : AutoReply). (c.args.responder, reply))) (sym (ap option_copied c.in-Some.is) ∙ c.reply_to.ensures)

pub returns-in-None : goal.returns-in-None
returns-in-None c =
    ap (option_map {U = Due} (λ (reply : AutoReply). (c.args.responder, reply))) (sym (ap option_copied c.in-None.is) ∙ c.reply_to.ensures)
