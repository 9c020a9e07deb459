-- Laws that belong to no one function.
mod OperationRuns
mod PatchRuns
mod Stands
mod Written
