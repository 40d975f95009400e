pub mod Empty
pub mod Last
pub mod Cuts
pub mod Orders
pub mod Splits
pub mod Images
pub mod Moved
pub mod Renumbered
pub mod Fresh
pub mod Joined
pub mod Windows
pub mod EndOrders
pub mod Sides
pub mod GoingOn
mod WorkedWindows
pub mod Entries
pub mod Exceeding
pub mod Local
pub mod FaultLists
pub mod FaultLaws
pub mod Components
pub mod Rising
pub mod StaleViews
pub mod LastWritten
pub mod OrderLaws
mod WorkedOrders
mod WorkedVerdicts
mod WorkedVersions
pub mod Timed
pub mod Intervals
pub mod CutCalls
mod Telling
mod ToldOrders
mod TurnsTold
mod Matched
mod OrderTold
mod Ranked
pub mod CutEvents
pub mod LeftOut
pub mod Counted
pub mod Numbered
pub mod Versioned
mod WorkedTelling
pub mod Backward
pub mod Chain
pub mod Forward
pub mod Printed
pub mod Ranks
pub mod Keys
pub mod Unique
pub mod Starts
pub mod FaultWitnesses
pub mod Kept
pub mod Histories
pub mod Chosen
pub mod Shown
pub mod Witnesses
pub mod Pairs
pub mod Regular
pub mod Integrity
pub mod Proximity
pub mod Read
pub mod Write
pub mod Sizes
pub mod First
pub mod Legal
mod SameEvents
mod MappedLists
mod AnyonesFaults
mod Processes
mod WorkedProcesses
