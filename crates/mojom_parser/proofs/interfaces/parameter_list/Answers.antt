use Rattle.std.proofs.Common.{◌≡◌, List, [], ◌∷◌, ◌++◌, false, sym, ap, ◌∙◌, refl, subst, Ok}
use Rattle.std.proofs.lemmas.Result.{err_from_is_err_and}
use Rattle.mj_base.specs.declared.limits.TheConstants.{MAX_NESTED_TYPES}
use Rattle.mojom_ast.specs.declared.definitions.Parameter.{Parameter}
use Rattle.mojom_ast.specs.Lang.{Read, as_value, joined, many, maybe, ◌▹◌}
use Rattle.mojom_ast.specs.Grammar.{parameter, next_parameter, attributes, bracketed}
use Rattle.mojom_parser.specs.steps.Reading.{Gives, with_front}
use Rattle.mojom_parser.proofs.Loops.{pair_on, pair_off, pair_fails}
use Rattle.mojom_parser.proofs.interfaces.parameter_list.Goals as goal

not_null : (parameter MAX_NESTED_TYPES).null ≡ false
unfolding parameter attributes bracketed
not_null = refl

pub returns-then-not-begins_parameter : goal.returns-then-not-begins_parameter
returns-then-not-begins_parameter c = pair_off (parameter MAX_NESTED_TYPES) not_null (many (next_parameter MAX_NESTED_TYPES)) c.args.tokens.now
    (sym c.begins_parameter.ensures ∙ c.if-not-begins_parameter.true) ∙ ap (λ (l : List Parameter). Ok (l, c.args.tokens.now))
    (sym c.new-parameters.ensures.items)

pub returns-in_err-first : goal.returns-in_err-first
returns-in_err-first c =
    let p = err_from_is_err_and c.from_residual.result c.from_residual.ensures.1 in
    rw (p.1, p.2) (pair_fails (parameter MAX_NESTED_TYPES) not_null (many (next_parameter MAX_NESTED_TYPES)) c.args.tokens.now c.in_err-first.field-0.0
    (sym c.begins_parameter.ensures ∙ c.if-not-begins_parameter.false) c.in_err-first.ensures)

pub returns : goal.returns
returns c =
    let items : c.push.new.self.items ≡ c.in_ok-first.first ∷ [] = c.in_ok-push.ensures.items
    ∙ ap (λ (l : List Parameter). l ++ c.in_ok-first.first ∷ []) c.new-parameters.ensures.items in
    let read : with_front c.push.new.self.items ((many (next_parameter MAX_NESTED_TYPES)).read c.in_ok-first.rest.now) ≡
    (as_value joined (maybe (parameter MAX_NESTED_TYPES ▹ many (next_parameter MAX_NESTED_TYPES)))).read c.args.tokens.now
    = ap (λ (l : List Parameter). with_front l ((many (next_parameter MAX_NESTED_TYPES)).read c.in_ok-first.rest.now)) items
    ∙ sym (pair_on (parameter MAX_NESTED_TYPES) not_null (many (next_parameter MAX_NESTED_TYPES)) c.args.tokens.now c.in_ok-first.first c.in_ok-first.rest.now
    (sym c.begins_parameter.ensures ∙ c.if-not-begins_parameter.false) c.in_ok-first.ensures) in
    subst (λ (r : Read (List Parameter)). Gives (λ x. (x.0.items, x.1.now)) c.at_most.result r) read c.at_most.ensures
