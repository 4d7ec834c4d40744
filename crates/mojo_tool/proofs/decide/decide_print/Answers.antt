use Rattle.std.proofs.Common.{subst, List, ℕ, [], ◌∷◌}
use Rattle.mojom_compile.specs.Compiled.{IsUnread}
use Rattle.mojo_tool.specs.steps.Stops.{NotCompiled}
use Rattle.mojo_tool.proofs.Asking.{ok_goes, err_goes, no_tree, tree_text}
use Rattle.mojo_tool.proofs.Made.{one_after, untreed_after, short_after, whatever}
use Rattle.mojo_tool.specs.Work.{Parsing}
use Rattle.mojo_tool.proofs.From.{fetch_from, file_from, memory_from, parsing_stops}
use Rattle.mojo_tool.proofs.decide.decide_print.Goals as goal

pub returns-in-Err-read_tree-clause-stop : goal.returns-in-Err-read_tree-clause-stop
returns-in-Err-read_tree-clause-stop g c =
    no_tree _ _ c.args.name.now c.in-Ok.bytes.items c.in-Err-read_tree.stop c.in-Ok.ensures.bytes c.in-Ok.ensures.short
    (subst (λ (bytes : List ℕ). NotCompiled (IsUnread bytes) c.args.name.now c.in-Err-read_tree.stop) c.as_slice.ensures.value c.in-Err-read_tree.ensures.stop)

pub returns-clause-text : goal.returns-clause-text
returns-clause-text g c =
    ok_goes _ _ _
    (λ text is. tree_text _ _ _ c.args.name.now c.in-Ok.bytes.items text c.in-Ok-read_tree.tree c.in-Ok.ensures.bytes c.in-Ok.ensures.short
    c.in-Ok.ensures.came
    (rw c.as_slice.ensures.value at c.in-Ok-read_tree.ensures.tree) is) c.spell.ensures.text

pub returns-in-Err-clause-stopped : goal.returns-in-Err-clause-stopped
returns-in-Err-clause-stopped g c = one_after c.args.name.now c.in-Err.stop _ _ c.in-Err.ensures.ended

pub returns-in-Err-read_tree-clause-stopped : goal.returns-in-Err-read_tree-clause-stopped
returns-in-Err-read_tree-clause-stopped g c =
    untreed_after _ c.args.name.now c.in-Err-read_tree.stop _ _ c.in-Err-read_tree.ensures.stop c.in-Ok.ensures.whole

pub returns-clause-whole : goal.returns-clause-whole
returns-clause-whole g c = whatever c.spell.result _ c.in-Ok.ensures.whole

pub returns-clause-stopped : goal.returns-clause-stopped
returns-clause-stopped g c =
    err_goes _ _ _ (λ why none. short_after (c.args.name.now ∷ []) [] why _ _ none c.in-Ok.ensures.whole) c.spell.ensures.memory

pub returns-in-Err-clause-refused : goal.returns-in-Err-clause-refused
returns-in-Err-clause-refused g c =
    fetch_from c.args.name.now (Parsing c.args.name.now) _ _ c.in-Err.stop _ _ c.in-Err.ensures.ended

pub returns-in-Err-read_tree-clause-refused : goal.returns-in-Err-read_tree-clause-refused
returns-in-Err-read_tree-clause-refused g c =
    file_from c.args.name.now c.in-Ok.bytes.items (Parsing c.args.name.now) _ _ c.in-Err-read_tree.stop c.in-Ok.ensures.came
    (parsing_stops c.args.name.now c.in-Ok.bytes.items c.in-Err-read_tree.stop
    (subst (λ (bytes : List ℕ). NotCompiled (IsUnread bytes) c.args.name.now c.in-Err-read_tree.stop) c.as_slice.ensures.value c.in-Err-read_tree.ensures.stop))

pub returns-clause-refused : goal.returns-clause-refused
returns-clause-refused g c = memory_from c.spell.result c.args.name.now (Parsing c.args.name.now) _ _ c.spell.ensures.memory
