use Rattle.std.proofs.Common.{◌≡◌, drop}
use Rattle.compat_model.specs.Changes.{tag_changed}
use Rattle.compat_model.specs.Members.{first_found}
use Rattle.breaking_changes.proofs.unions.first_changed.Given as goal

-- the first of what is left is the first of all
abbrev pub invariant-loop-tag : goal.invariant-loop-tag
invariant-loop-tag l =
    first_found (tag_changed l.namesakes l.older.fields l.newer.fields) (drop l.tag-index l.tags)
    ≡ first_found (tag_changed l.namesakes l.older.fields l.newer.fields) l.tags
