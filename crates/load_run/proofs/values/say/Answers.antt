use Rattle.std.proofs.Common.{◌≡◌, ◌∷◌, [], List, ℕ, ap, pos, replicate, subst, ◌∙◌}
use Rattle.std.specs.Prelude.{IfOk}
use Rattle.wire_model.specs.Trees.{Fields, Text, Tree, Whole, trees, view}
use Rattle.load_run.proofs.values.say.Goals as goal

pub returns : goal.returns
returns c =
    let letters : c.in_ok-text.text.items ≡ replicate c.args.letters 120 = c.in_ok-text.ensures.items_if_clones_equal (λ y e. e) in
    let text : view c.text_of.result ≡ Text (replicate c.args.letters 120) = c.text_of.ensures ∙ ap (λ (bytes : List ℕ). Text bytes) letters in
    subst (λ (t : Tree). IfOk c.two_fields.result (λ value. view value ≡ Fields (trees (Whole (pos c.args.number) ∷ t ∷ [])))) text
    (subst (λ (t : Tree). IfOk c.two_fields.result (λ value. view value ≡ Fields (trees (t ∷ view c.text_of.result ∷ [])))) c.whole.ensures
    c.two_fields.ensures)
