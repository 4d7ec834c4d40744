use Rattle.std.proofs.Common.{◌≡◌, ◌++◌, drop, map}
use Rattle.mj_schema.specs.Places.{places_from, tag_of}
use Rattle.mj_schema.proofs.union_field_rows.tag_places.Given as goal

-- the places of those that were passed are there, and the rest is still to be
abbrev pub invariant-loop-place : goal.invariant-loop-place
invariant-loop-place l = l.made.items ++ places_from l.place (map tag_of (drop l.place l.rows)) ≡ places_from 0 (map tag_of l.rows)
