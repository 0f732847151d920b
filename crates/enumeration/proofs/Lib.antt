-- Laws of the enumeration: prefixes of arborescences, and arcs that close a cycle; what the events list, and for which
-- instances they are the same; the walk with its limit and its room, and its buffer; walks computed. Assumes
-- nothing.
pub mod SelectLaws
pub mod CycleLaws
pub mod PrefixLaws
pub mod EventLaws
pub mod ListedLaws
pub mod SameEvents
pub mod RunLaws
pub mod AheadLaws
pub mod JoinedLaws
pub mod WalkLaws
pub mod MemberLaws
pub mod WorkedWalks
