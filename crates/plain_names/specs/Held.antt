-- What the names of a sequence stand for and hold, where nobody has handles.
use Rattle.std.specs.Prelude.{ℕ, ◌≡◌, length, replicate, None}
use Rattle.script_names.specs.Held.{held_at}
use Rattle.script_names.specs.Names.{Named}
use Rattle.plain_names.specs.declared.named.PlainNames.{PlainNames}

-- what names stand for and hold
abbrev pub named_in : PlainNames → Named
named_in names = record {
  stands = held_at names.stands.things.items;
  handle = held_at names.handles.items.items;
  pending = held_at names.pendings.items.items;
  responder = held_at names.responders.items.items;
}

-- there are so many names
pub record HasNames (count : ℕ) (names : PlainNames) : Type 0 where
  pub stands : length names.stands.things.items ≡ count
  pub handles : length names.handles.items.items ≡ count
  pub pendings : length names.pendings.items.items ≡ count
  pub responders : length names.responders.items.items ≡ count

-- so many, which stand for nothing
pub record IsUnnamed (size : ℕ) (names : PlainNames) : Type 0 where
  pub stands : names.stands.things.items ≡ replicate size None
  pub handles : names.handles.items.items ≡ replicate size None
  pub pendings : names.pendings.items.items ≡ replicate size None
  pub responders : names.responders.items.items ≡ replicate size None

-- they stand for and hold the same
pub record SameNames (old new : PlainNames) : Type 0 where
  pub stands : new.stands ≡ old.stands
  pub handles : new.handles.items.items ≡ old.handles.items.items
  pub pendings : new.pendings.items.items ≡ old.pendings.items.items
  pub responders : new.responders.items.items ≡ old.responders.items.items
