use Rattle.call_script.proofs.WordBytes.{interface_is_ascii}
use Rattle.call_script.proofs.commands.associate_command.Goals as goal

pub interface_named-requires-clause-text : goal.interface_named-requires-clause-text
interface_named-requires-clause-text c = interface_is_ascii c.args.interface.now c.requires.interface
