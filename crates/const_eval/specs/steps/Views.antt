-- What the code lends and hands on, as contracts see it.
use Rattle.module_resolver.specs.Places.{Spot}
use Rattle.const_eval.specs.declared.consts.Consts.{Consts}
use Rattle.const_eval.specs.declared.here.Here.{Here}
use Rattle.const_eval.specs.declared.ordinals.MemberView.{MemberView}
use Rattle.const_eval.specs.Refused.{Member, Site}

-- what is lent of a member, as contracts see it
abbrev pub member_view : MemberView → Member
member_view member = record { name = member.name.now; ordinal = member.ordinal }

-- what the code has of it, as contracts see it
abbrev pub site_of : Here → Site
site_of here = record { consts = here.consts.now; names = here.names.now.files; file = here.file }

-- where something is tested that stands here, where this is what constants mean
abbrev pub site_at : Consts → Spot → Site
site_at consts spot = record { consts = consts; names = spot.files; file = spot.file }
