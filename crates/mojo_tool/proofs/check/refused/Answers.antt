use Rattle.std.proofs.Common.{List, ℕ, Bor, refl}
use Rattle.mojo_tool.proofs.Fetching.{shown_at, unread_within, refused_within, unread_at, refused_at}
use Rattle.mojo_tool.proofs.check.refused.Goals as goal

pub returns-in-Unread : goal.returns-in-Unread
returns-in-Unread c =
    unread_at _ c.args.error c.in-Unread.file c.in-Unread.refusal _ _ c.in-Unread.is
    (shown_at (λ (name : Bor (List ℕ)). name.now) c.args.names.now c.in-Unread.file _
    (unread_within _ c.args.error c.in-Unread.file c.in-Unread.refusal c.in-Unread.is c.requires))
    refl

pub returns-in-Refused : goal.returns-in-Refused
returns-in-Refused c =
    refused_at _ c.args.error c.in-Refused.refusal _ _ c.in-Refused.is
    (shown_at (λ (name : Bor (List ℕ)). name.now) c.args.names.now c.in-Refused.refusal.file _
    (refused_within _ c.args.error c.in-Refused.refusal c.in-Refused.is c.requires))
    refl
