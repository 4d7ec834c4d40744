use Rattle.std.proofs.Common.{◌≡◌, ℕ, List, [], ◌∷◌, ◌++◌, ap, ◌∙◌}
use Rattle.line_parts.specs.Names.{that_are_words, interfaces_from}
use Rattle.line_parts.specs.declared.names.Entry.{Entry}
use Rattle.line_parts.proofs.NameBuilds.{interface_on, interfaces_end}
use Rattle.line_parts.proofs.names.interface_words.Goals as goal

pub loop-number-preserved : goal.loop-number-preserved
loop-number-preserved c =
    let entry : List ℕ → Entry ℕ = λ text. record { text = text; value = c.loop-number.number } in
    let full = c.as_bytes.ensures.value ∙ c.as_str.ensures ∙ c.in_ok-full.ensures in
    let named : c.in_ok-text.text.items ≡ c.index-rows-number.result.name = c.in_ok-text.ensures.items ∙ full in
    interface_on c.args.rows.now c.loop-number.number c.index-rows-number.result c.loop-number.words.items c.push_word.new.words.items
    (that_are_words (interfaces_from 0 c.args.rows.now)) c.loop-number-test.true c.index-rows-number.is
    (c.in_ok-push_word.ensures ∙ ap (λ (text : List ℕ). c.loop-number.words.items ++ that_are_words (entry text ∷ [])) named) c.loop-number.invariant

pub returns : goal.returns
returns c = interfaces_end c.args.rows.now c.loop-number.number c.loop-number.words.items (that_are_words (interfaces_from 0 c.args.rows.now))
    c.loop-number-test.false c.loop-number.invariant
