use Rattle.std.proofs.Common.{◌≡◌, ℕ, ◌-◌, List, [], ◌∷◌, ◌++◌, length, take, drop, map, sym, ◌∙◌, ap, subst, append_assoc}
use Rattle.std.specs.Prelude.{codes, reverse, string_bytes}
use Rattle.mj_base.specs.Names.{within}
use Rattle.module_resolver.specs.NamesOf.{fronts_of}
use Rattle.module_resolver.specs.NameDots.{dots_in}
use Rattle.module_resolver.specs.steps.Cuts.{cut_at, AreCuts}
use Rattle.module_resolver.proofs.Cuts.{part_added, parts_ended, cuts_whole}
use Rattle.module_resolver.proofs.Falls.{many_of}
use Rattle.module_resolver.proofs.fronts.Fronts.new.Goals as goal

pub loop-part-preserved : goal.loop-part-preserved
loop-part-preserved c =
    let text = string_bytes c.loop-part.whole in
    let ends = c.loop-part.ends.items in
    let rest = take (length c.args.parts.now - 1) (drop 1 c.args.parts.now) in
    let inner = c.as_str-in-loop-part-2.result.now in
    let longer : c.push.new.self.items ≡ ends ++ length text ∷ [] =
    c.in_ok-push.ensures.items ∙ ap (λ (t : List ℕ). ends ++ length t ∷ []) c.as_str-in-loop-part.ensures.value in
    let more : string_bytes c.push_str-in-loop-part.new.self ≡ within text c.part-item.result.text =
    c.in_ok-push_str-2.ensures.bytes
    ∙ (ap (λ (t : List ℕ). t ++ inner) c.in_ok-push_str.ensures.bytes
    ∙ (append_assoc text (codes ".") inner ∙ ap (within text) c.as_str-in-loop-part-2.ensures)) in
    let both =
    part_added text (string_bytes c.push_str-in-loop-part.new.self) ends c.push.new.self.items rest c.loop-part.part-index c.part-item.result
    (fronts_of c.args.parts.now) c.loop-part-test.true c.part-item.is more longer c.loop-part.invariant.cuts c.loop-part.invariant.are in
    record { are = both.0; cuts = both.1 }

pub invariant_of-result : goal.invariant_of-result
invariant_of-result c =
    let text = string_bytes c.loop-part.whole in
    let ends = c.loop-part.ends.items in
    let rest = take (length c.args.parts.now - 1) (drop 1 c.args.parts.now) in
    let is : c.reversed.result.items ≡ reverse (ends ++ length text ∷ []) =
    c.reversed.ensures ∙ ap reverse (c.in_ok-push-2.ensures.items ∙ ap (λ (t : List ℕ). ends ++ length t ∷ []) c.as_str-2.ensures.value) in
    let fronts : cut_at text c.reversed.result.items ≡ fronts_of c.args.parts.now =
    parts_ended text ends c.reversed.result.items rest c.loop-part.part-index (fronts_of c.args.parts.now) c.loop-part-test.false is
    c.loop-part.invariant.are in
    let dotted : map dots_in (cut_at text c.reversed.result.items) ≡ c.in_ok-dots.dots.items = ap (map dots_in) fronts ∙ c.in_ok-dots.ensures.are in
    record {
      cuts = subst (AreCuts text) (sym is) (cuts_whole text ends c.loop-part.invariant.cuts);
      dotted = dotted;
      many = many_of text c.reversed.result.items c.in_ok-dots.dots.items dotted;
      falls = c.in_ok-dots.ensures.falls;
    }

pub returns : goal.returns
returns c =
    let text = string_bytes c.loop-part.whole in
    let ends = c.loop-part.ends.items in
    let rest = take (length c.args.parts.now - 1) (drop 1 c.args.parts.now) in
    let is : c.reversed.result.items ≡ reverse (ends ++ length text ∷ []) =
    c.reversed.ensures ∙ ap reverse (c.in_ok-push-2.ensures.items ∙ ap (λ (t : List ℕ). ends ++ length t ∷ []) c.as_str-2.ensures.value) in
    parts_ended text ends c.reversed.result.items rest c.loop-part.part-index (fronts_of c.args.parts.now) c.loop-part-test.false is
    c.loop-part.invariant.are
