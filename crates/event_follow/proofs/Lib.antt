mod Running
mod PlacesLemmas
mod Turning
mod Joining
mod FollowingLemmas
mod DrainingLemmas
