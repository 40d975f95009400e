pub mod Worked
mod WorkedCalls
pub mod WorkedHistories
mod WorkedMonotone
mod WorkedRegular
mod WorkedAtomic
mod WorkedRefusals
pub mod Lists
pub mod Sums
pub mod Facts
pub mod Begun
pub mod Ends
pub mod Histories
pub mod Ordered
pub mod Pushes
pub mod Pushed
pub mod Picks
pub mod OrderedPushes
pub mod Recalled
pub mod Tabled
pub mod Rising
pub mod Fits
pub mod Limits
pub mod Laws
mod Sending
pub mod Members
