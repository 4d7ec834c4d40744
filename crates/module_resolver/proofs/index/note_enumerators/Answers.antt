use Rattle.std.proofs.Common.{rules, ◌≡◌, ◌+◌, ◌++◌, ℕ, List, length, take, sym, ◌∙◌, ap, subst, length-append}
use Rattle.std.specs.Prelude.{Bool}
use Rattle.std.specs.List.{flat_map}
use Rattle.std.specs.Option.{option_map}
use Rattle.std.proofs.lemmas.List.{take_all, length-map}
use Rattle.import_order.specs.Numbers.{number_of}
use Rattle.mj_base.specs.Names.{within}
use Rattle.module_resolver.specs.declared.target.Target.TheVariants.{Enumerator}
use Rattle.module_resolver.specs.Enums.{names_in_enum}
use Rattle.module_resolver.specs.steps.Owners.{where_seen, Notes}
use Rattle.module_resolver.specs.Seats.{held}
use Rattle.module_resolver.proofs.OneMore.{take_item}
use Rattle.module_resolver.proofs.Owned.{none_noted}
use Rattle.module_resolver.proofs.Held.{owner_kept, entry_kept}
use Rattle.module_resolver.proofs.Enums.{flat_pushed, names_noted}
use Rattle.module_resolver.proofs.index.note_enumerators.Goals as goal

pub loop-one-init : goal.loop-one-init
loop-one-init c =
    let both = c.in_ok-at.ensures.entered in
    record {
      sound = both.sound;
      at = c.in_ok-at.ensures.is;
      first = search rules;
      notes = λ p q. owner_kept c.args.index.now c.enter_alone.new.index both p q ∙ none_noted p c.args.file _;
    }

pub loop-one-preserved : goal.loop-one-preserved
loop-one-preserved c =
    let enums = c.enums-enums.result.now in
    let i = c.loop-one.one-index in
    let one = c.one-item.result in
    let before = flat_map names_in_enum (take i enums) in
    let next : flat_map names_in_enum (take (i + 1) enums) ≡ before ++ names_in_enum one =
    flat_pushed names_in_enum (take i enums) (take (i + 1) enums) one (take_item enums i one c.loop-one-test.true c.one-item.is) in
    record {
      sound = c.in_ok-note_enum.ensures.sound;
      at = entry_kept c.loop-one.index c.note_enum.new.index c.in_ok-note_enum.ensures.nodes c.args.around.now c.in_ok-at.at c.loop-one.invariant.at;
      first =
          c.in_ok-first.ensures
          ∙ (ap (λ (n : ℕ). c.loop-one.first + n) c.len.ensures
          ∙ (ap (λ (n : ℕ). n + length one.names) c.loop-one.invariant.first
          ∙ (ap (λ (n : ℕ). length before + n) (sym (length-map one.names (within one.outer)))
          ∙ sym (ap (λ (ns : List (List ℕ)). length ns) next ∙ length-append before (names_in_enum one)))));
      notes =
          names_noted (held c.args.index.now) (held c.loop-one.index) (held c.note_enum.new.index) (λ (n : ℕ). Enumerator c.args.file n) c.args.file
          c.loop-one.first before (names_in_enum one) (flat_map names_in_enum (take (i + 1) enums)) c.loop-one.invariant.first next
          c.loop-one.invariant.notes c.in_ok-note_enum.ensures.notes;
    }

pub returns-clause-notes : goal.returns-clause-notes
returns-clause-notes c =
    let enums = c.enums-enums.result.now in
    let all : flat_map names_in_enum (take c.loop-one.one-index enums) ≡ c.args.names.now =
    ap (flat_map names_in_enum) (take_all c.loop-one.one-index enums c.loop-one-test.false) ∙ c.enums-enums.ensures in
    subst
    (λ (ns : List (List ℕ)).
    Notes (held c.args.index.now) (held c.loop-one.index)
    (λ (p : ℕ → Bool) (q : List ℕ). where_seen p c.args.file (option_map (λ (n : ℕ). Enumerator c.args.file n) (number_of q ns)))) all
    c.loop-one.invariant.notes
