use Rattle.std.proofs.Common.{◌≡◌, ℕ, List, ◌++◌}
use Rattle.std.specs.Prelude.{Option, Some, None, Result, Ok, Err, OnOk, IfSome}
use Rattle.std.specs.Fmt.{WritesText}
use Rattle.std.proofs.lemmas.Fmt.{contents_after_writes}
use Rattle.history_text.specs.declared.writing.Sink.{Sink}
use Rattle.history_text.proofs.writing.written.Goals as goal

-- a text was written behind the bytes
abbrev Took : Sink → List ℕ → Sink → Type 0
Took before text after = after.bytes.items ≡ before.bytes.items ++ text

-- where it is known what all writes wrote, it stands behind the bytes
behind : {A E : Type 0} (r : Result A E) (o : Option (List ℕ)) (before after : Sink) → OnOk r (WritesText Took before o after)
    → OnOk r (IfSome o (λ text. after.bytes.items ≡ before.bytes.items ++ text))
behind (Ok x) (Some text) before after wrote =
    contents_after_writes Took (λ (sink : Sink). sink.bytes.items) (λ _ _ _ took. took) before text after wrote
behind (Ok x) None before after wrote = wrote
behind (Err e) o before after wrote = wrote

pub returns : goal.returns
returns g c =
    behind c.write-wrote.result (g.A.Display.output c.args.shown) (record { bytes = c.args.before }) c.write-wrote.new.self c.write-wrote.ensures.writes
