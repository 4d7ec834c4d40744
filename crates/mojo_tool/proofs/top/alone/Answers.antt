use Rattle.std.proofs.Common.{refl}
use Rattle.std.specs.Prelude.{map, string_bytes}
use Rattle.mojo_tool.proofs.Reporting.{never_threads, none_wrong, short_at_once}
use Rattle.mojo_tool.proofs.top.alone.Goals as goal

pub returns-in-AtOnce-clause-at_once : goal.returns-in-AtOnce-clause-at_once
returns-in-AtOnce-clause-at_once g c = rw c.in-AtOnce.is at c.in-Ok.ensures.ok

pub returns-in-AtOnce-clause-same : goal.returns-in-AtOnce-clause-same
returns-in-AtOnce-clause-same g c = (refl, refl, refl)

pub returns-in-Alone-clause-wrong_use : goal.returns-in-Alone-clause-wrong_use
returns-in-Alone-clause-wrong_use g c none = absurd (none_wrong _ _ c.in-Ok.ensures.ok none)

pub returns-in-Alone-clause-threads : goal.returns-in-Alone-clause-threads
returns-in-Alone-clause-threads g c asks =
    absurd (never_threads (map string_bytes c.args.words.now) c.in-Alone.command (rw c.in-Alone.is at c.in-Ok.ensures.ok) asks)

pub returns-in-Alone-clause-answers : goal.returns-in-Alone-clause-answers
returns-in-Alone-clause-answers g c = c.on_one_thread.ensures (map string_bytes c.args.words.now) (rw c.in-Alone.is at c.in-Ok.ensures.ok)

pub returns-in-Err-Memory-clause-answers : goal.returns-in-Err-Memory-clause-answers
returns-in-Err-Memory-clause-answers g c = short_at_once (map string_bytes c.args.words.now) _ _ _
