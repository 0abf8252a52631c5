pub mod EntryMarks
