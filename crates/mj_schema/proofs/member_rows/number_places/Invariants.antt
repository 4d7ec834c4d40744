use Rattle.std.proofs.Common.{◌≡◌, ◌++◌, drop, map}
use Rattle.mj_schema.specs.Places.{number_of, places_from}
use Rattle.mj_schema.proofs.member_rows.number_places.Given as goal

-- the places of those that were passed are there, and the rest is still to be
abbrev pub invariant-loop-place : goal.invariant-loop-place
invariant-loop-place l = l.made.items ++ places_from l.place (map number_of (drop l.place l.rows)) ≡ places_from 0 (map number_of l.rows)
