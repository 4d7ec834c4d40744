use Rattle.std.proofs.Common.{Result, Ok, Err, IfOk, IfErr, length, List}
use Rattle.mj_base.specs.declared.limits.TheConstants.{MAX_NESTED_TYPES}
use Rattle.mojom_ast.specs.declared.file.File.{File}
use Rattle.mojom_ast.specs.declared.token.Token.{Token}
use Rattle.mojom_ast.specs.Parsed.{Spells}
use Rattle.grammar_laws.specs.steps.Factored.{factored}
use Rattle.mojom_parser.specs.declared.error.ParseError.{ParseError}
use Rattle.mojom_parser.specs.Parsed.{Blames}
use Rattle.mojom_parser.specs.steps.Verdict.{verdict, Agrees}
use Rattle.mojom_parser.proofs.Places.{is_spelled, is_blamed, is_answered, is_exact, is_end, is_too_deep}
use Rattle.mojom_parser.proofs.parser.parse.Goals as goal

ok_of : (ts : List Token) (a : Result File ParseError) → Agrees a (verdict (length ts) ((factored MAX_NESTED_TYPES).read ts)) → IfOk a (λ f. Spells f ts)
ok_of ts (Ok f) g = is_spelled ts f g
ok_of ts (Err e) g = tt

fault_of : (ts : List Token) (a : Result File ParseError) → Agrees a (verdict (length ts) ((factored MAX_NESTED_TYPES).read ts)) → IfErr a (λ e. Blames e ts)
fault_of ts (Ok f) g = tt
fault_of ts (Err e) g = is_blamed ts e g

pub returns-clause-ok : goal.returns-clause-ok
returns-clause-ok c = ok_of c.args.tokens.now c.judge.result c.judge.ensures

pub returns-clause-only : goal.returns-clause-only
returns-clause-only c = λ tree s. is_answered c.args.tokens.now tree c.judge.result s c.judge.ensures

pub returns-clause-fault : goal.returns-clause-fault
returns-clause-fault c = fault_of c.args.tokens.now c.judge.result c.judge.ensures

pub returns-clause-exact : goal.returns-clause-exact
returns-clause-exact c = λ at lt b stop. is_exact c.args.tokens.now at c.judge.result lt b stop c.judge.ensures

pub returns-clause-end : goal.returns-clause-end
returns-clause-end c = λ b none. is_end c.args.tokens.now c.judge.result b none c.judge.ensures

pub returns-clause-deep : goal.returns-clause-deep
returns-clause-deep c = λ at lt d. is_too_deep c.args.tokens.now at c.judge.result lt d c.judge.ensures
