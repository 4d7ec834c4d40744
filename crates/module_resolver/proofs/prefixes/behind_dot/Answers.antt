use Rattle.std.proofs.Common.{arith, ◌≡◌, ℕ, List, ◌∷◌, ◌++◌, drop, sym, ◌∙◌, ap}
use Rattle.std.specs.Prelude.{Option, Some, None, IfSome, MatchOption}
use Rattle.std.proofs.lemmas.Str.Pattern.{strip_prefix_char}
use Rattle.mj_base.specs.Names.{within}
use Rattle.module_resolver.proofs.prefixes.behind_dot.Goals as goal
use denote.Bor.{Bor}

behind : (P : Type 0) (name outer rest : List ℕ) (k : ℕ) (r : Option (Bor (List ℕ))) → name ≡ outer ++ drop k name → rest ≡ drop k name
    → MatchOption r P (λ x. rest ≡ 46 ∷ x.now) → IfSome r (λ x. name ≡ within outer x.now)
behind P name outer rest k None e is h = tt
behind P name outer rest k (Some x) e is h = e ∙ ap (λ (t : List ℕ). outer ++ t) (sym is ∙ h)

pub returns : goal.returns
returns c =
    let first = c.in_ok-rest.ensures.cases in
    let rest = c.in_ok-rest.rest.now in
    behind _ c.args.name.now c.args.outer.now rest first.0 c.strip_prefix-2.result first.1.1 first.2
    (strip_prefix_char 46 rest c.strip_prefix-2.result c.strip_prefix-2.ensures.cases (omega arith))
