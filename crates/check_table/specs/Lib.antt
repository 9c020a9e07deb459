pub mod FindingTable
pub mod FindingTableLaws
