mod Small
mod Careful
