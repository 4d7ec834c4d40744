use Rattle.std.proofs.Common.{◌<◌, ◌≤◌, ℕ, List, ◌++◌, length, get_or, ap, ◌∙◌, subst}
use Rattle.std.specs.List.{flat_map}
use Rattle.mj_schema.specs.declared.rows.MethodRow.{MethodRow}
use Rattle.line_parts.specs.Names.{that_are_words}
use Rattle.line_parts.proofs.NameBuilds.{of_method, method_on, methods_end}
use Rattle.line_parts.proofs.names.push_messages.Goals as goal

pub loop-method-preserved : goal.loop-method-preserved
loop-method-preserved c =
    let methods = c.args.row.now.methods in
    let words = c.loop-method.words.items in
    let method = c.method-item.result in
    let of = of_method c.args.side c.args.interface in
    method_on c.args.side c.args.interface c.args.row.now.name methods c.loop-method.method-index method words c.push_message.new.words.items
    (c.args.words.now.items ++ that_are_words (flat_map (of c.args.row.now.name) methods))
    (subst (λ (ms : List MethodRow). c.loop-method.method-index < length ms) c.as_slice-method-items.ensures c.loop-method-test.true)
    (c.method-item.is ∙ ap (λ (ms : List MethodRow). get_or ms c.loop-method.method-index method) c.as_slice-method-items.ensures)
    (c.in_ok-push_message.ensures
    ∙ ap (λ (name : List ℕ). words ++ that_are_words (of name method)) (c.as_bytes-name.ensures.value ∙ c.as_str.ensures ∙ c.in_ok-full.ensures))
    c.loop-method.invariant

pub returns : goal.returns
returns c =
    let methods = c.args.row.now.methods in
    methods_end c.args.side c.args.interface c.args.row.now.name methods c.loop-method.method-index c.loop-method.words.items
    (c.args.words.now.items ++ that_are_words (flat_map (of_method c.args.side c.args.interface c.args.row.now.name) methods))
    (subst (λ (ms : List MethodRow). length ms ≤ c.loop-method.method-index) c.as_slice-method-items.ensures c.loop-method-test.false)
    c.loop-method.invariant
