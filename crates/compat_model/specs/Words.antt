-- The words for changes.
use Rattle.std.specs.Prelude.{ℕ, List, codes}
use Rattle.compat_model.specs.declared.reason.Change.{Change}
use Rattle.compat_model.specs.declared.reason.Change.TheVariants as changes

-- the word that stands for a change
abbrev pub word_of : Change → List ℕ
word_of changes.Missing = codes "Missing"
word_of changes.NotStable = codes "NotStable"
word_of changes.ExtensibleGone = codes "ExtensibleGone"
word_of (changes.MemberGone number) = codes "MemberGone"
word_of (changes.TagGone tag) = codes "TagGone"
word_of (changes.MethodGone ordinal) = codes "MethodGone"
word_of (changes.ResponseChanged ordinal) = codes "ResponseChanged"
word_of (changes.FieldGone ordinal) = codes "FieldGone"
word_of (changes.KindChanged ordinal) = codes "KindChanged"
word_of (changes.VersionChanged ordinal) = codes "VersionChanged"
word_of (changes.EarlyField ordinal) = codes "EarlyField"
