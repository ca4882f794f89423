pub mod LongestMark
