-- Laws that belong to no one function.
mod QuickRuns
mod QuickSets
