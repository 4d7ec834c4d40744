-- The order of tokens, by which the table of data pipes finds one, and what a change of one line makes of all.
use Rattle.std.proofs.Common.{◌≡◌, Bool, true, false, refl, sym, ap, subst, ◌∙◌, Some, None}
use Rattle.std.specs.Prelude.{◌&&◌, if◌then◌else◌, cond, is_some, Option, Result, Ok, Err, IfOk, IfErr}
use Rattle.std.specs.BTreeMap.{BTreeMap, get, is_at, Updates}
use Rattle.std.specs.Ordering.{nat_cmp, ordering_then}
use Rattle.std.specs.declared.cmp.Ordering.{Ordering}
use Rattle.handle_table.specs.Things.{same_token}
use Rattle.handle_table.specs.declared.thing.TokenId.{TokenId}
use Rattle.handle_table.proofs.ThingsLemmas.{same_token-true}
use Rattle.bind_model.specs.declared.flow.Flow.{Flow}
use Rattle.bind_model.specs.declared.flow.Flowed.{Flowed}
use Rattle.bind_model.proofs.NameOrder.{both_equal, found_by, tied, updated_by}
use Rattle.data_pipe.specs.declared.refused.DataRefused.{DataRefused}
use Rattle.data_pipe.specs.Moving.{after, told, IsRefused}
use Rattle.data_pipe.specs.Pipe.{Pipe}
use Rattle.data_pipe.specs.Table.{Lines, has_line, line_of, pipe_at, pipe_in_line, AllStay, Becomes, Moves, Refuses}

-- by sequence, then by number
abbrev pub token_cmp : TokenId → TokenId → Ordering
token_cmp a b = ordering_then (nat_cmp a.seq b.seq) (nat_cmp a.serial b.serial)

-- tokens that compare alike are one
pub alike : (x y : TokenId) → is_at (token_cmp x) y ≡ same_token x y
alike x y = both_equal (nat_cmp x.seq y.seq) (nat_cmp x.serial y.serial) ∙ (λ i. tied x.seq y.seq i && tied x.serial y.serial i)

pub found : (m : BTreeMap TokenId Pipe) (t : TokenId) → line_of m.entries t ≡ get token_cmp m t
found m t = found_by token_cmp same_token alike m t

-- there is a line where one is asked for
pub no_line : (m : BTreeMap TokenId Pipe) (lines : Lines) (t : TokenId) → m.entries ≡ lines → None ≡ get token_cmp m t → has_line lines t ≡ true → ⊥
no_line m lines t e none there =
    let a : has_line lines t ≡ false = ap (λ (ls : Lines). has_line ls t) (sym e) ∙ ap (λ (o : Option Pipe). is_some o) (found m t ∙ sym none) in
    cc

-- the data pipe of a line that is found
pipe_here : (m : BTreeMap TokenId Pipe) (t : TokenId) (before : Pipe) → Some before ≡ get token_cmp m t → pipe_at m.entries t ≡ before
pipe_here m t before there = ap pipe_in_line (found m t ∙ sym there)

-- one line becomes another, or goes
pub becomes : (old new : BTreeMap TokenId Pipe) (t : TokenId) (line : Option Pipe) → Updates token_cmp old new t line → Becomes t line old.entries new.entries
becomes old new t line update x = updated_by token_cmp same_token alike old new t line update x ∙ go (same_token t x)
  where
    go : (b : Bool) → cond b line (line_of old.entries x) ≡ (if b then line else line_of old.entries x)
    go true = refl
    go false = refl

module _ (old new : BTreeMap TokenId Pipe) (t : TokenId) (before now : Pipe) (update : Updates token_cmp old new t (Some now))
    (there : Some before ≡ get token_cmp old t) where
  -- a line that stays what it was
  stays : now ≡ before → AllStay old.entries new.entries
  stays same x = becomes old new t (Some now) update x ∙ go (same_token t x) refl
    where
      go : (b : Bool) → same_token t x ≡ b → (if b then Some now else line_of old.entries x) ≡ line_of old.entries x
      go true e =
          ap Some same ∙ (there ∙ (sym (found old t) ∙ ap (λ (z : TokenId). line_of old.entries z) (same_token-true t x e)))
      go false e = refl

  pub moves : {E : Type 0} (r : Result Flowed E) (gone : Bool) (f : Flow)
      → IfOk r (λ w. (told before gone f ≡ Ok w) × (now ≡ after f w before)) → IfOk r (λ w. Moves t gone f w old.entries new.entries)
  moves (Ok w) gone f h = (
    ap (λ (pipe : Pipe). told pipe gone f) (pipe_here old t before there) ∙ h.0,
    λ x.
        becomes old new t (Some now) update x
        ∙ ap (λ (pipe : Pipe). if same_token t x then Some pipe else line_of old.entries x)
        (h.1 ∙ ap (λ (pipe : Pipe). after f w pipe) (sym (pipe_here old t before there))),
  )
  moves (Err e) gone f h = tt

  pub refuses : {A : Type 0} (r : Result A DataRefused) (gone : Bool) (f : Flow)
      → IfErr r (λ refused. IsRefused (told before gone f) refused × (now ≡ before))
      → IfErr r (λ refused. Refuses t gone f refused old.entries new.entries)
  refuses (Ok v) gone f h = tt
  refuses (Err refused) gone f h =
      (subst (λ (pipe : Pipe). IsRefused (told pipe gone f) refused) (sym (pipe_here old t before there)) h.0, stays h.1)
