use Rattle.std.proofs.Common.{◌≡◌, ◌≢◌, ◌++◌, ℕ, List, Bor, subst}
use Rattle.std.specs.Prelude.{MatchOption}
use Rattle.std.proofs.lemmas.Bool.Decides.{Decides-eqb}
use Rattle.std.proofs.lemmas.Slice.Eq.{strip_suffix_is}
use Rattle.mj_base.proofs.compare.before.Goals as goal

pub returns : goal.returns
returns c =
    let bytes = c.args.bytes.now in
    subst
    (λ (back : List ℕ).
    MatchOption c.strip_suffix.result ((front : List ℕ) → bytes ≢ front ++ back) (λ (x : Bor (List ℕ)). bytes ≡ x.now ++ back)) c.as_bytes.ensures.value
    (strip_suffix_is Decides-eqb bytes c.as_bytes.result.now c.strip_suffix.result c.strip_suffix.ensures.cases)
