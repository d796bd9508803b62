pub mod WaitLists
