-- What the code lends and hands on, as contracts see it.
use Rattle.std.specs.Option.{option_copied}
use Rattle.kind_scope.specs.declared.member.MemberView.{MemberView}
use Rattle.kind_scope.specs.declared.member.NumberedView.{NumberedView}
use Rattle.kind_scope.specs.declared.scope.ScopeView.{ScopeView}
use Rattle.kind_scope.specs.Members.{Member, Numbered}
use Rattle.kind_scope.specs.Scopes.{Scope}

-- what the code has of it
abbrev pub member_view : MemberView → Member
member_view m = record {
  name = m.name.now;
  attributes = m.attributes.now;
  kind = option_copied m.kind;
  ordinal = m.ordinal;
  default = option_copied m.default;
}

-- what the code has of it
abbrev pub numbered_view : NumberedView → Numbered
numbered_view n = record { member = member_view n.member; ordinal = n.ordinal }

-- what the code has of it
abbrev pub scope_view : ScopeView → Scope
scope_view s = record { names = s.place.files; consts = s.consts.now; file = s.place.file; enclosing = s.place.enclosing }
